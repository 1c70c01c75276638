use Rattle.std.proofs.Common.{◌∙◌, ◌*◌, ◌/◌, ◌+◌, ℕ, List, length, map, codes, subst, sym, ap, refl}
use Rattle.std.proofs.lemmas.Result.{err_from_is_err_and}
use Rattle.sci_work.specs.declared.recording.Recording.{Recording}
use Rattle.sci_work.specs.Ended.{AreClosed, AreKept, HaveNodes, IsCounted, lists_in}
use Rattle.sci_work.specs.Plain.{plain}
use Rattle.sci_work.specs.Ring.{FitsRing, IsRingRun, ring_writes}
use Rattle.sci_work.specs.Stencil.{FitsStencil, IsStencilSize, stencil_writes}
use Rattle.sci_work.specs.Written.{AreWrittenAs, WritesAlone}
use Rattle.sci_serve.specs.Works.{count_line, list_line}
use Rattle.sci_serve.proofs.Declining.{comes_in_run}
use Rattle.sci_serve.proofs.workloads.run_workload.Goals as goal

pub returns-in_err-cells-in-Stencil-clause-err : goal.returns-in_err-cells-in-Stencil-clause-err
returns-in_err-cells-in-Stencil-clause-err g c =
    let of = c.in-Stencil in let stopped = c.in_err-cells-in-Stencil in
    let p = err_from_is_err_and c.from_residual.result c.from_residual.ensures.1 in
    let size = subst (λ (cells : List ℕ). IsStencilSize (length cells) of.phases of.nodes of.capacity) (sym c.as_slice-cells.ensures) (rw of.is at c.requires) in
    rw (p.1, p.2) (comes_in_run stopped.field-0.0 (λ bad. stopped.ensures.limits.0 (rw bad refl) size))

pub returns-in_ok-cells-in-Stencil-clause-line : goal.returns-in_ok-cells-in-Stencil-clause-line
returns-in_ok-cells-in-Stencil-clause-line g c =
    let of = c.in-Stencil in let ended = c.in_ok-cells-in-Stencil in
    rw of.is (ap (λ (values : List ℕ). list_line (codes "cells") values) (ended.ensures.cells ∙ ap (λ (cells : List ℕ). plain cells of.phases) c.as_slice-cells.ensures))

pub returns-in_ok-cells-in-Stencil-clause-left : goal.returns-in_ok-cells-in-Stencil-clause-left
returns-in_ok-cells-in-Stencil-clause-left g c =
    let of = c.in-Stencil in let ended = c.in_ok-cells-in-Stencil in let closed = ended.memory.lines.items in
    rw of.is
    (subst (λ (cells : List ℕ). AreClosed (FitsStencil cells of.phases) (2 * (length cells / 7)) closed × HaveNodes of.nodes closed)
    c.as_slice-cells.ensures (ended.ensures.closed, ended.ensures.nodes))

pub returns-in_ok-cells-in-Stencil-clause-kept : goal.returns-in_ok-cells-in-Stencil-clause-kept
returns-in_ok-cells-in-Stencil-clause-kept g c =
    let of = c.in-Stencil in let ended = c.in_ok-cells-in-Stencil in
    rw of.is
    (λ all. subst (λ (cells : List ℕ). AreKept Recording.All (FitsStencil cells of.phases) of.nodes ended.memory) c.as_slice-cells.ensures
    (subst (λ (k : Recording). AreKept k (FitsStencil c.as_slice-cells.result.now of.phases) of.nodes ended.memory) all ended.ensures.kept))

pub returns-in_ok-cells-in-Stencil-clause-wrote : goal.returns-in_ok-cells-in-Stencil-clause-wrote
returns-in_ok-cells-in-Stencil-clause-wrote g c =
    let of = c.in-Stencil in let ended = c.in_ok-cells-in-Stencil in
    rw of.is
    (subst (λ (cells : List ℕ). AreWrittenAs (WritesAlone (stencil_writes cells of.phases of.nodes (length cells / 7))) (map lists_in ended.memory.receipts.items)) c.as_slice-cells.ensures ended.ensures.wrote)

pub returns-in_err-items-in-Ring-clause-err : goal.returns-in_err-items-in-Ring-clause-err
returns-in_err-items-in-Ring-clause-err g c =
    let of = c.in-Ring in let stopped = c.in_err-items-in-Ring in
    let p = err_from_is_err_and c.from_residual-in_err-items-in-Ring.result c.from_residual-in_err-items-in-Ring.ensures.1 in
    let size = subst (λ (items : List ℕ). IsRingRun (length items) of.lines of.capacity) (sym c.as_slice-items.ensures) (rw of.is at c.requires) in
    rw (p.1, p.2) (comes_in_run stopped.field-0.0 (λ bad. stopped.ensures.limits.0 (rw bad refl) size))

pub returns-in_ok-items-in-Ring-clause-line : goal.returns-in_ok-items-in-Ring-clause-line
returns-in_ok-items-in-Ring-clause-line g c =
    rw c.in-Ring.is (ap (λ (values : List ℕ). list_line (codes "items") values) (c.in_ok-items-in-Ring.ensures.items ∙ c.as_slice-items.ensures))

pub returns-in_ok-items-in-Ring-clause-left : goal.returns-in_ok-items-in-Ring-clause-left
returns-in_ok-items-in-Ring-clause-left g c =
    let of = c.in-Ring in let ended = c.in_ok-items-in-Ring in let closed = ended.memory.lines.items in
    rw of.is
    (subst (λ (items : List ℕ). AreClosed (FitsRing items of.lines) (of.lines + 1) closed × HaveNodes 2 closed)
    c.as_slice-items.ensures (ended.ensures.closed, ended.ensures.nodes))

pub returns-in_ok-items-in-Ring-clause-kept : goal.returns-in_ok-items-in-Ring-clause-kept
returns-in_ok-items-in-Ring-clause-kept g c =
    let of = c.in-Ring in let ended = c.in_ok-items-in-Ring in
    rw of.is
    (λ all. subst (λ (items : List ℕ). AreKept Recording.All (FitsRing items of.lines) 2 ended.memory) c.as_slice-items.ensures
    (subst (λ (k : Recording). AreKept k (FitsRing c.as_slice-items.result.now of.lines) 2 ended.memory) all ended.ensures.kept))

pub returns-in_ok-items-in-Ring-clause-wrote : goal.returns-in_ok-items-in-Ring-clause-wrote
returns-in_ok-items-in-Ring-clause-wrote g c =
    let of = c.in-Ring in let ended = c.in_ok-items-in-Ring in
    rw of.is (subst (λ (items : List ℕ). AreWrittenAs (WritesAlone (ring_writes items of.lines)) (map lists_in ended.memory.receipts.items)) c.as_slice-items.ensures ended.ensures.wrote)

pub returns-in_err-word-in-Count-clause-err : goal.returns-in_err-word-in-Count-clause-err
returns-in_err-word-in-Count-clause-err g c =
    let stopped = c.in_err-word-in-Count in
    let p = err_from_is_err_and c.from_residual-in_err-word-in-Count.result c.from_residual-in_err-word-in-Count.ensures.1 in
    let size = rw c.in-Count.is at c.requires in
    rw (p.1, p.2) (comes_in_run stopped.field-0.0 (λ bad. stopped.ensures.limits.0 (rw bad refl) size))

pub returns-in_ok-word-in-Count-clause-line : goal.returns-in_ok-word-in-Count-clause-line
returns-in_ok-word-in-Count-clause-line g c = rw c.in-Count.is (ap count_line c.in_ok-word-in-Count.ensures.total)

pub returns-in_ok-word-in-Count-clause-left : goal.returns-in_ok-word-in-Count-clause-left
returns-in_ok-word-in-Count-clause-left g c =
    let ended = c.in_ok-word-in-Count in
    rw c.in-Count.is (subst (λ (n : ℕ). IsCounted n ended.memory.lines.items) ended.ensures.total ended.ensures.ok, ended.ensures.nodes)

pub returns-in_ok-word-in-Count-clause-kept : goal.returns-in_ok-word-in-Count-clause-kept
returns-in_ok-word-in-Count-clause-kept g c = rw c.in-Count.is (λ all. c.in_ok-word-in-Count.ensures.kept)

pub returns-in_ok-word-in-Count-clause-wrote : goal.returns-in_ok-word-in-Count-clause-wrote
returns-in_ok-word-in-Count-clause-wrote g c = rw c.in-Count.is c.in_ok-word-in-Count.ensures.wrote
