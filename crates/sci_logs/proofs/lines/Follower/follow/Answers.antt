use Rattle.std.proofs.Common.{◌∙◌, List, take, refl, sym, subst, Ok, Err}
use Rattle.std.proofs.lemmas.List.{take_all, take_more}
use Rattle.std.proofs.lemmas.List.Elements.{All-get_or}
use Rattle.sci_script.specs.declared.commands.Size.{Size}
use Rattle.sci_logs.specs.declared.entries.Entry.{Entry}
use Rattle.sci_logs.specs.Steps.{IsIn, lines_of}
use Rattle.sci_logs.specs.Runs.{IsRun}
use Rattle.sci_logs.proofs.Running.{departs, run_more, taken_with}
use Rattle.sci_logs.proofs.lines.Follower.follow.Goals as goal

pub loop-place-init : goal.loop-place-init
loop-place-init c = record { size = refl; run = λ l. refl }

pub loop-place-preserved : goal.loop-place-preserved
loop-place-preserved c =
    let start = c.loop-place.invariant in
    record {
      size = c.take.ensures.size ∙ start.size;
      run = rw (take_more c.args.entries.now c.loop-place.place c.index-entries-place.result c.loop-place-test.true, ← c.index-entries-place.is)
          (run_more c.args.self.now.size.nodes (lines_of c.args.self.now) (take c.loop-place.place c.args.entries.now) c.index-entries-place.result (lines_of c.loop-place.self) (lines_of c.take.new.self) start.run
          (taken_with c.loop-place.self.size c.args.self.now.size (lines_of c.loop-place.self) c.index-entries-place.result (Ok tt) (lines_of c.take.new.self) start.size c.in-Ok.ensures.takes));
    }

pub returns-in-Err-clause-runs : goal.returns-in-Err-clause-runs
returns-in-Err-clause-runs c =
    let start = c.loop-place.invariant in (
      lines_of c.loop-place.self,
      start.run,
      departs c.args.self.now.size.nodes (lines_of c.loop-place.self) (lines_of c.take.new.self) c.args.entries.now c.loop-place.place c.index-entries-place.result c.in-Err.why c.loop-place-test.true c.index-entries-place.is
          (taken_with c.loop-place.self.size c.args.self.now.size (lines_of c.loop-place.self) c.index-entries-place.result (Err c.in-Err.why) (lines_of c.take.new.self) start.size c.in-Err.ensures.takes),
    )

pub returns-clause-runs : goal.returns-clause-runs
returns-clause-runs c =
    subst (λ (es : List Entry). IsRun c.args.self.now.size.nodes (lines_of c.args.self.now) es (lines_of c.loop-place.self))
    (take_all c.loop-place.place c.args.entries.now c.loop-place-test.false) c.loop-place.invariant.run

pub take-requires : goal.take-requires
take-requires c =
    subst (λ (size : Size). IsIn size c.index-entries-place.result) (sym c.loop-place.invariant.size)
    (subst (λ (e : Entry). IsIn c.args.self.now.size e) (sym c.index-entries-place.is) (All-get_or (λ (e : Entry). IsIn c.args.self.now.size e) c.args.entries.now c.loop-place.place c.index-entries-place.result c.loop-place-test.true c.requires))
