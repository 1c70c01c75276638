use Rattle.std.proofs.Common.{◌∙◌, ℕ, List, map, subst, sym, ap, refl}
use Rattle.std.proofs.lemmas.List.{length-map}
use Rattle.sci_histories.specs.Histories.{HasSizes, LineReceipts}
use Rattle.sci_histories.specs.Text.{history_text}
use Rattle.sci_work.specs.Ended.{lists_in}
use Rattle.sci_settings.specs.Settings.{nodes_of}
use Rattle.sci_serve.specs.Runs.{fits_of}
use Rattle.sci_serve.proofs.LineHistories.{legal_of, sizes}
use Rattle.sci_serve.proofs.LinesLeft.{are_few}
use Rattle.sci_serve.proofs.histories.history_of.Goals as goal

pub line_histories-requires : goal.line_histories-requires
line_histories-requires g c = sym (length-map c.in_ok-memory.memory.receipts.items lists_in) ∙ (c.in_ok-memory.ensures.kept refl).count

pub invariant_of-history : goal.invariant_of-history
invariant_of-history g c =
    let s = c.args.settings.now in let memory = c.in_ok-memory.memory in
    subst (λ (n : ℕ). HasSizes (record { nodes = n; lines = c.in_ok-lines.lines.items })) (sym c.nodes-nodes.ensures)
    (sizes (fits_of s) (nodes_of s) memory.lines.items (map lists_in memory.receipts.items) c.in_ok-lines.lines.items c.in_ok-lines.ensures (c.in_ok-memory.ensures.kept refl)
    (are_few s memory.lines.items c.requires c.in_ok-memory.ensures.left))

pub returns-clause-ok : goal.returns-clause-ok
returns-clause-ok g c =
    let s = c.args.settings.now in let memory = c.in_ok-memory.memory in let kept = c.in_ok-memory.ensures.kept refl in
    let lists = map lists_in memory.receipts.items in (
      memory.lines.items,
      c.in_ok-memory.ensures.left,
      record {
        lists = lists;
        histories = kept;
        wrote = c.in_ok-memory.ensures.wrote;
        legal = legal_of (fits_of s) (nodes_of s) memory.lines.items lists kept;
        is = c.in_ok-text.ensures
            ∙ ap (λ (n : ℕ). history_text n c.in_ok-lines.lines.items) c.nodes-nodes.ensures
            ∙ ap (λ (hs : List LineReceipts). history_text (nodes_of s) hs) c.in_ok-lines.ensures;
      },
    )
