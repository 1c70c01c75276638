use Rattle.std.proofs.Common.{Option, IfSome, ℕ, ◌≢◌, sym, subst}
use Rattle.sci_shared_tests.proofs.Cases.{last_is_new, need_is_enough, no_two_passed}
use Rattle.sci_shared_tests.proofs.plain.plain_cases.Goals as goal

pub returns-clause-passed : goal.returns-clause-passed
returns-clause-passed g c = no_two_passed

pub returns-clause-last : goal.returns-clause-last
returns-clause-last g c = last_is_new

pub returns-clause-need : goal.returns-clause-need
returns-clause-need g c = need_is_enough

pub returns-clause-read : goal.returns-clause-read
returns-clause-read g c line u v words stamp h = (h.last.front, h.last.extends, h.last.is)

pub returns-clause-others : goal.returns-clause-others
returns-clause-others g c n request u v h none m other = h m other (subst (λ (o : Option ℕ). IfSome o (λ w. m ≢ w)) (sym none) tt)

pub returns-clause-refused : goal.returns-clause-refused
returns-clause-refused g c u v h m = let s = h m in (s.list, s.passing)
