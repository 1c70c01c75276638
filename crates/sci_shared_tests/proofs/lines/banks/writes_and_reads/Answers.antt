use Rattle.sci_shared_tests.proofs.lines.banks.writes_and_reads.Goals as goal

pub store-requires-clause-fits : goal.store-requires-clause-fits
store-requires-clause-fits g c = λ words e fits. tt
