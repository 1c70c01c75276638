use Rattle.sci_cache.proofs.Kept.{requests_kept}
use Rattle.sci_cache.proofs.laws.requests_are_kept.Goals as goal

pub returns : goal.returns
returns g c n request u before at answer v m needs turns last = requests_kept g.B.Bank.gives g.B.Bank.readies g.B.Bank.at_step g.B.Bank.receipts n request u before at answer v m needs turns last
