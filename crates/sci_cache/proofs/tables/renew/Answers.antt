use Rattle.std.proofs.Common.{ap, sym, ◌∙◌}
use Rattle.std.specs.Map.{keys_of}
use Rattle.lru.specs.LruCache.{lru_cache}
use Rattle.sci_cache.proofs.Ordered.{is_in, promoted_none, used_promoted}
use Rattle.sci_cache.proofs.tables.renew.Goals as goal

pub returns : goal.returns
returns c =
    let t = c.args.table.now in
    let named = c.promote.ensures.value ∙ is_in c.args.line t.entries in
    record {
      named = named;
      used = λ is. ap (λ k. keys_of k.entries) c.promote.ensures.entries ∙ used_promoted c.args.line t.entries t.cap (sym named ∙ is) c.len.ensures.valid.1;
      capacity = ap (λ k. k.cap) c.promote.ensures.entries;
      same = λ is. c.promote.ensures.entries ∙ ap (λ es. lru_cache es t.cap) (promoted_none c.args.line t.entries (sym named ∙ is));
    }
