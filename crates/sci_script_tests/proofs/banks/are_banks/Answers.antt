use Rattle.std.proofs.Common.{rules, ◌≡◌, ℕ, List, ◌<◌, ◌≤◌, length, arith}
use Rattle.std.proofs.lemmas.Option.{slice_get_within}
use Rattle.sci_script.specs.BankDesks.{IsBankOf}
use Rattle.sci_script.proofs.BankDesks.{one_more}
use Rattle.sci_script_tests.proofs.banks.are_banks.Goals as goal

pub loop-number-preserved : goal.loop-number-preserved
loop-number-preserved g c =
    let size = c.args.script.now.size in
    let count : length c.args.banks.now ≡ size.nodes = search rules in
    let end : c.nodes-number-end.result ≡ size.nodes = search rules in
    let low : c.loop-number.number < c.nodes-number-end.result = search rules in
    one_more (λ k b. IsBankOf g.B.Bank.way g.B.Bank.nodes_on (λ x line words. g.B.Keep.Keeps.fits (g.B.Bank.keep x) line words) size k b) c.args.banks.now c.loop-number.number c.from-in-loop-number.result c.index-banks-from.result
    (search rules) (omega arith) c.index-banks-from.is (c.is_bank.ensures (search rules)) c.loop-number.invariant

pub returns : goal.returns
returns g c = λ _.
    let count : length c.args.banks.now ≡ c.args.script.now.size.nodes = search rules in
    let end : c.nodes-number-end.result ≡ c.args.script.now.size.nodes = search rules in
    let far : c.nodes-number-end.result ≤ c.loop-number.number = search rules in
    record {
      count = count;
      each = λ k b at. let low : k < length c.args.banks.now = slice_get_within c.args.banks.now k b at in c.loop-number.invariant k b (omega arith) at;
    }
