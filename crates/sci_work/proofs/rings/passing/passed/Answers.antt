use Rattle.std.proofs.Common.{◌≡◌, ℕ, ◌+◌, List, length, ap, sym, ◌∙◌, subst, arith}
use Rattle.std.proofs.lemmas.Result.{IfOk-from_err}
use Rattle.sci_work.specs.Ended.{AreClosed, AreKept}
use Rattle.sci_work.specs.Programs.{AreWritesOf}
use Rattle.sci_work.specs.Ring.{FitsRing}
use Rattle.sci_work.specs.Starts.{AreParts}
use Rattle.sci_work.specs.declared.facts.ring.RingFact.{RingFact}
use Rattle.sci_work.specs.declared.programs.Program.{Program}
use Rattle.sci_work.proofs.Closing.{closed_under, kept_under, nodes_under, written_by}
use Rattle.sci_work.proofs.Items.{is_ring}
use Rattle.sci_work.proofs.Opening.{parts_of}
use Rattle.sci_work.proofs.Refusing.{of_memory}
use Rattle.sci_work.proofs.Residual.{passed_on}
use Rattle.sci_work.proofs.rings.passing.passed.Goals as goal

abbrev fits_of : RingFact → ℕ → List ℕ → Type 0
fits_of fact line words = FitsRing fact.source.now fact.lines line words

pub run_all-requires-after_bounds : goal.run_all-requires-after_bounds
run_all-requires-after_bounds g c κs within =
    let fact = c.new.result in let made = c.in_ok-shared in let lines = c.args.lines in
    let size : length made.shared.items ≡ lines + 1 = omega (arith, made.ensures.count, made.shared.ok) in
    subst (λ (z : List _). AreParts fits_of c.args.recording z (Program.Ring c.args.source lines) made.hands) (sym c.deref.ensures.value)
    (parts_of fits_of c.args.recording 2 fact (lines + 1) (Program.Ring c.args.source lines) made.shared.items made.hands size (omega arith) (let few = c.requires.2 in omega (arith, few)) made.ensures.lines made.ensures.len (omega arith) made.ensures.hands
    (λ k low. (is_ring fact.source.now c.args.source.now fact.lines lines (ap (λ z. z.now) c.new.ensures.source) c.new.ensures.lines, c.requires, omega arith)))

pub last_share-items-requires : goal.last_share-items-requires
last_share-items-requires g c = let ended = c.in_ok-hands.ensures.ok in record { two = ended.share_count ∙ c.in_ok-shared.ensures.len; each = ended.shares_are }

pub returns-clause-items : goal.returns-clause-items
returns-clause-items g c = c.last_share-items.ensures

pub returns-clause-closed : goal.returns-clause-closed
returns-clause-closed g c =
    let fact = c.new.result in let made = c.in_ok-shared in let lines = c.args.lines in let all = c.in_ok-all.all.lines.items in
    let size : length made.shared.items ≡ lines + 1 = omega (arith, made.ensures.count, made.shared.ok) in
    let ended = closed_under fits_of 2 fact (lines + 1) made.shared.items all size made.ensures.lines c.in_ok-all.ensures.ok in
    subst (λ (s : List _). AreClosed (FitsRing s lines) (lines + 1) all) (ap (λ z. z.now) c.new.ensures.source)
    (subst (λ (l : _). AreClosed (FitsRing fact.source.now l) (lines + 1) all) c.new.ensures.lines ended)

pub returns-clause-nodes : goal.returns-clause-nodes
returns-clause-nodes g c = nodes_under fits_of 2 c.new.result c.in_ok-shared.shared.items c.in_ok-all.all.lines.items c.in_ok-shared.ensures.lines c.in_ok-all.ensures.ok

pub returns-clause-kept : goal.returns-clause-kept
returns-clause-kept g c =
    let fact = c.new.result in let made = c.in_ok-shared in let lines = c.args.lines in let all = c.in_ok-all.all in
    let kept = kept_under fits_of c.args.recording 2 fact made.shared.items all made.ensures.lines made.ensures.zeros c.in_ok-all.ensures.ok c.in_ok-all.ensures.kept in
    subst (λ (s : List _). AreKept c.args.recording (FitsRing s lines) 2 all) (ap (λ z. z.now) c.new.ensures.source)
    (subst (λ (l : _). AreKept c.args.recording (FitsRing fact.source.now l) 2 all) c.new.ensures.lines kept)

pub returns-clause-wrote : goal.returns-clause-wrote
returns-clause-wrote g c =
    let all = c.in_ok-all.ensures in
    written_by (λ node line list. AreWritesOf (Program.Ring c.args.source c.args.lines) node line list) fits_of c.args.recording c.in_ok-shared.shared.items c.in_ok-hands.hands.items c.in_ok-all.all c.in_ok-hands.ensures.ok.end all.kept all.own

pub returns-in_err-shared : goal.returns-in_err-shared
returns-in_err-shared g c =
    let r = c.from_residual in
    record {
      items = IfOk-from_err r.result _ r.ensures.0;
      closed = IfOk-from_err r.result _ r.ensures.0;
      nodes = IfOk-from_err r.result _ r.ensures.0;
      kept = IfOk-from_err r.result _ r.ensures.0;
      wrote = IfOk-from_err r.result _ r.ensures.0;
      err = passed_on r.result _ _ r.ensures.1 (of_memory (Program.Ring c.args.source c.args.lines) _ c.in_err-shared.ensures.err);
    }

pub returns-in_err-hands : goal.returns-in_err-hands
returns-in_err-hands g c =
    let r = c.from_residual-in_err-hands in
    record {
      items = IfOk-from_err r.result _ r.ensures.0;
      closed = IfOk-from_err r.result _ r.ensures.0;
      nodes = IfOk-from_err r.result _ r.ensures.0;
      kept = IfOk-from_err r.result _ r.ensures.0;
      wrote = IfOk-from_err r.result _ r.ensures.0;
      err = passed_on r.result _ _ r.ensures.1 c.in_err-hands.ensures.err;
    }

pub returns-in_err-all : goal.returns-in_err-all
returns-in_err-all g c =
    let r = c.from_residual-in_err-all in
    record {
      items = IfOk-from_err r.result _ r.ensures.0;
      closed = IfOk-from_err r.result _ r.ensures.0;
      nodes = IfOk-from_err r.result _ r.ensures.0;
      kept = IfOk-from_err r.result _ r.ensures.0;
      wrote = IfOk-from_err r.result _ r.ensures.0;
      err = passed_on r.result _ _ r.ensures.1 (of_memory (Program.Ring c.args.source c.args.lines) _ c.in_err-all.ensures.err);
    }
