-- The faults of the commands `script` and `trace`.
use Rattle.std.proofs.Common.{◌≡◌, ◌≤◌, ℕ, List, [], length, Result, Ok, Err, OnOk, IfErr, refl, sym, subst, inl, inr}
use Rattle.sci_script.specs.declared.commands.Size.{Size}
use Rattle.sci_script.specs.declared.commands.Opening.{Opening}
use Rattle.sci_script.specs.declared.commands.Step.{Step}
use Rattle.sci_script.specs.declared.refusals.ScriptRefusal.{ScriptRefusal}
use Rattle.sci_script.specs.declared.refusals.ScriptRefusal.TheVariants.{OutOfMemory, BadCommand, BadNumber, NotDone, WriteFailed}
use Rattle.sci_serve.specs.declared.faults.SimFault.{SimFault}
use Rattle.sci_serve.specs.declared.scripts.Form.{Form}
use Rattle.sci_serve.specs.Fault.{fault_of}
use Rattle.sci_script.specs.Format.{Fails, script_of}
use Rattle.sci_serve.specs.Input.{IsReadFault}
use Rattle.sci_serve.specs.Serve.{FailsWith, Stops, StopsRunning}
use Rattle.sci_serve.proofs.ReadFaults.{of_read_fault}

pub stops_reading : (limit : ℕ) (form : Form) (e : ScriptRefusal) (input : List ℕ) → length input ≤ limit → Fails e (script_of input) → Stops limit form (fault_of e) input []
stops_reading limit form OutOfMemory input short h = inl (tt, refl)
stops_reading limit form (BadCommand n) input short h = inl ((short, h), refl)
stops_reading limit form (BadNumber n) input short h = inl ((short, h), refl)
stops_reading limit form (NotDone n) input short h = absurd h
stops_reading limit form WriteFailed input short h = absurd h

stops_running : (limit : ℕ) (form : Form) (e : ScriptRefusal) (input written : List ℕ) → StopsRunning limit form e input written → Stops limit form (fault_of e) input written
stops_running limit form OutOfMemory input written h = inr h
stops_running limit form (BadCommand n) input written h = inr h
stops_running limit form (BadNumber n) input written h = inr h
stops_running limit form (NotDone n) input written h = inr h
stops_running limit form WriteFailed input written h = h

pub stops_failing : (limit : ℕ) (form : Form) (e : ScriptRefusal) (input written : List ℕ) (size : Size) (capacity : ℕ) (openings : List Opening) (steps : List Step) → length input ≤ limit
    → script_of input ≡ Ok (size, capacity, openings, steps) → FailsWith form input size capacity openings steps e written → Stops limit form (fault_of e) input written
stops_failing limit form e input written size capacity openings steps short is (inl (memory, none)) =
    subst (λ (r : ScriptRefusal). Stops limit form (fault_of r) input written) (sym memory) (inl (tt, none))
stops_failing limit form e input written size capacity openings steps short is (inr left) = stops_running limit form e input written (short, size, capacity, openings, steps, is, left)

pub stops_input : (limit : ℕ) (form : Form) (e : SimFault) (input : List ℕ) → IsReadFault limit e input → Stops limit form e input []
stops_input limit form e input h = of_read_fault limit (λ f. Stops limit form f input []) input refl (λ long. (long, refl)) (inl (tt, refl)) e h

pub ok_then : {X E : Type 0} (r : Result X E) (P Q : Type 0) → OnOk r P → (P → Q) → OnOk r Q
ok_then (Ok x) P Q h f = f h
ok_then (Err e) P Q h f = tt

pub err_then : {X E : Type 0} (r : Result X E) (P Q : E → Type 0) → IfErr r P → ((e : E) → P e → Q e) → IfErr r Q
err_then (Ok x) P Q h f = tt
err_then (Err e) P Q h f = f e h
