use Rattle.std.proofs.Common.{◌∙◌, sym, ap, ℕ, List}
use Rattle.std.specs.Io.Buffered.{writer_contents, writer_inner}
use Rattle.std.specs.Io.KnownBytes.{append_known}
use Rattle.sci_serve.proofs.Buffering.{left_behind, left_cut, put_behind}
use Rattle.sci_serve.proofs.scripts.serve_buffered.Goals as goal

pub returns-in-Ok-clause-ok : goal.returns-in-Ok-clause-ok
returns-in-Ok-clause-ok g c =
    let contents = g.W.Write.contents in
    let after = c.serve-served.new.writer in
    let rest = c.deref.result.now in
    let parts = c.into_parts-writer.ensures in
    let held = ap (λ w. append_known (contents w) rest) parts.inner ∙ ap (λ (l : List ℕ). append_known (contents (writer_inner after)) l) (c.deref.ensures.value ∙ parts.buffer) in
    put_behind c.args.limit c.args.form c.serve-served.result (g.R.Read.remaining c.args.reader.now) (writer_contents contents c.args.output) (contents c.into_parts-writer.result.0) (contents c.put.new.out) (writer_contents contents after) rest
    (sym held) c.in-Ok.ensures.ok c.serve-served.ensures.ok

pub returns-clause-err : goal.returns-clause-err
returns-clause-err g c =
    let contents = g.W.Write.contents in
    let after = c.serve-served.new.writer in
    let rest = c.deref.result.now in
    let parts = c.into_parts-writer.ensures in
    let held = ap (λ w. append_known (contents w) rest) parts.inner ∙ ap (λ (l : List ℕ). append_known (contents (writer_inner after)) l) (c.deref.ensures.value ∙ parts.buffer) in
    left_cut c.args.limit c.args.form c.serve-served.result (g.R.Read.remaining c.args.reader.now) (writer_contents contents c.args.output) (contents c.into_parts-writer.result.0) (contents c.put.new.out) (writer_contents contents after) rest
    (sym held) c.serve-served.ensures.ok c.serve-served.ensures.err c.in-Err.ensures.err

pub returns-in-Ok-clause-err : goal.returns-in-Ok-clause-err
returns-in-Ok-clause-err g c =
    let contents = g.W.Write.contents in
    let after = c.serve-served.new.writer in
    let rest = c.deref.result.now in
    let parts = c.into_parts-writer.ensures in
    let held = ap (λ w. append_known (contents w) rest) parts.inner ∙ ap (λ (l : List ℕ). append_known (contents (writer_inner after)) l) (c.deref.ensures.value ∙ parts.buffer) in
    left_behind c.args.limit c.args.form c.serve-served.result (g.R.Read.remaining c.args.reader.now) (writer_contents contents c.args.output) (contents c.into_parts-writer.result.0) (contents c.put.new.out) (writer_contents contents after) rest
    (sym held) c.in-Ok.ensures.ok c.serve-served.ensures.err

pub returns-clause-ok : goal.returns-clause-ok
returns-clause-ok g c = tt
