use Rattle.std.proofs.Common.{rules, tests, ◌≡◌, ◌∙◌, ap, not, is_some, Bor, String, Global, string_bytes}
use Rattle.std.proofs.lemmas.Iterator.Consumers.{YieldsList-from_rest}
use Rattle.std.proofs.lemmas.Iterator.Search.{find_from_yields_List}
use Rattle.std.specs.Map.{keys_of}
use Rattle.std.specs.Map.Iter.{deref}
use Rattle.sci_settings.specs.Settings.{is_key_of}
use Rattle.sci_settings.proofs.Keys.{keys_view, is_found, is_mapped, all_found_stand}
use Rattle.sci_settings.proofs.works.foreign_key.Goals as goal

pub returns-clause-exact : goal.returns-clause-exact
returns-clause-exact c =
    let keys = YieldsList-from_rest {shows = deref {X = String Global}} (keys_of c.args.table.now.entries) c.keys.ensures.rest in
    let passes = λ (k : String Global). is_key_of c.args.work (string_bytes k) in
    let found = find_from_yields_List (λ (k : String Global). not (passes k)) _ _ _ c.find.ensures.ran keys (λ x b q k. search (rules, tests)) in
    is_mapped (deref {X = String Global}) c.find.result ∙ ap is_some found ∙ is_found passes (keys_of c.args.table.now.entries) ∙ ap not (keys_view c.args.work c.args.table.now.entries)

pub returns-clause-some : goal.returns-clause-some
returns-clause-some c =
    let keys = YieldsList-from_rest {shows = deref {X = String Global}} (keys_of c.args.table.now.entries) c.keys.ensures.rest in
    let passes = λ (k : String Global). is_key_of c.args.work (string_bytes k) in
    let found = find_from_yields_List (λ (k : String Global). not (passes k)) _ _ _ c.find.ensures.ran keys (λ x b q k. search (rules, tests)) in
    all_found_stand passes c.args.table.now.entries c.find.result found
