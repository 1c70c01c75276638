use Rattle.sci_port.proofs.Iterated.{all_writes}
use Rattle.sci_port.proofs.OneHistory.{shows_one_history, keeps_one_history, begins_receipts}
use Rattle.sci_port.proofs.Receiving.{receipts_on}
use Rattle.sci_port.proofs.laws.receipts_are_one_history.Goals as goal

pub returns-clause-shown : goal.returns-clause-shown
returns-clause-shown g c = shows_one_history g.K.Keeps.fits

pub returns-clause-kept : goal.returns-clause-kept
returns-clause-kept g c = keeps_one_history g.K.Keeps.fits

pub returns-clause-begun : goal.returns-clause-begun
returns-clause-begun g c = begins_receipts

pub returns-clause-received : goal.returns-clause-received
returns-clause-received g c keep number n me p q log place call s t o r h = receipts_on n (g.K.Keeps.fits keep number) me p q log place call s t o r h

pub returns-clause-counted : goal.returns-clause-counted
returns-clause-counted g c n o v lists f w all = all_writes n o v lists f w all
