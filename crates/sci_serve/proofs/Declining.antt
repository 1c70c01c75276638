-- The faults of the commands `run` and `run --history`.
use Rattle.std.proofs.Common.{◌≡◌, ℕ, ◌≤◌, List, [], length, None, IsUtf8, refl, sym, ◌∙◌}
use Rattle.sci_script.specs.declared.refusals.ScriptRefusal.TheVariants.{OutOfMemory, BadCommand, BadNumber, NotDone, WriteFailed}
use Rattle.sci_work.specs.declared.refusals.WorkRefusal.{WorkRefusal}
use Rattle.sci_serve.specs.declared.faults.SimFault.{SimFault}
use Rattle.sci_serve.specs.declared.faults.SimFault.TheVariants.{CannotRead, CannotWrite, InputTooLong, Refused, NoDump, Unlawful, NoRun}
use Rattle.sci_settings.specs.declared.settings.Settings.{Settings}
use Rattle.sci_settings.specs.declared.refusals.SettingsRefusal.{SettingsRefusal}
use Rattle.sci_settings.specs.declared.refusals.SettingsRefusal.TheVariants as settings
use Rattle.sci_serve.specs.Fault.{settings_fault_of, work_fault_of}
use Rattle.sci_serve.specs.Input.{IsReadFault}
use Rattle.sci_serve.specs.declared.running.Shown.{Shown}
use Rattle.sci_serve.specs.Runs.{AreSettings, ComesInRun}
use Rattle.sci_serve.specs.Shown.{StopsPrinting}
use Rattle.sci_settings.specs.Settings.{Fails, settings_of}
use Rattle.sci_serve.proofs.ReadFaults.{of_read_fault}

-- a workload's refusal other than 22
pub comes_in_run : (e : WorkRefusal) → (e ≡ WorkRefusal.BadSettings → ⊥) → ComesInRun (work_fault_of e)
comes_in_run WorkRefusal.OutOfMemory h = tt
comes_in_run WorkRefusal.StampsSpent h = tt
comes_in_run WorkRefusal.Overrun h = tt
comes_in_run WorkRefusal.Stalled h = tt
comes_in_run WorkRefusal.BadSettings h = absurd (h refl)
comes_in_run WorkRefusal.Stopped h = tt
comes_in_run WorkRefusal.NoThread h = tt

none_is : (input : List ℕ) → (IsUtf8 input → settings_of input ≡ None) → (s : Settings) → AreSettings input s → ⊥
none_is input none s (short, text, is) = let e = sym (none text) ∙ is in cc

pub stops_reading_settings : (shown : Shown) (e : SettingsRefusal) (input : List ℕ) → length input ≤ 1048576 → (IsUtf8 input → Fails e (settings_of input)) → StopsPrinting shown (settings_fault_of e) input []
stops_reading_settings shown settings.OutOfMemory input short h = refl
stops_reading_settings shown settings.BadSettings input short h = ((short, none_is input h), refl)

pub stops_in_run : (shown : Shown) (e : SimFault) (input : List ℕ) (s : Settings) → AreSettings input s → ComesInRun e → StopsPrinting shown e input []
stops_in_run shown CannotRead input s are h = absurd h
stops_in_run shown CannotWrite input s are h = absurd h
stops_in_run shown InputTooLong input s are h = absurd h
stops_in_run shown (Refused OutOfMemory) input s are h = refl
stops_in_run shown (Refused (BadCommand n)) input s are h = absurd h
stops_in_run shown (Refused (BadNumber n)) input s are h = absurd h
stops_in_run shown (Refused (NotDone n)) input s are h = absurd h
stops_in_run shown (Refused WriteFailed) input s are h = absurd h
stops_in_run shown (NoDump n) input s are h = absurd h
stops_in_run shown Unlawful input s are h = absurd h
stops_in_run shown (NoRun WorkRefusal.OutOfMemory) input s are h = absurd h
stops_in_run shown (NoRun WorkRefusal.StampsSpent) input s are h = ((s, are), refl)
stops_in_run shown (NoRun WorkRefusal.Overrun) input s are h = ((s, are), refl)
stops_in_run shown (NoRun WorkRefusal.Stalled) input s are h = ((s, are), refl)
stops_in_run shown (NoRun WorkRefusal.BadSettings) input s are h = absurd h
stops_in_run shown (NoRun WorkRefusal.Stopped) input s are h = ((s, are), refl)
stops_in_run shown (NoRun WorkRefusal.NoThread) input s are h = ((s, are), refl)

pub stops_run_input : (shown : Shown) (e : SimFault) (input : List ℕ) → IsReadFault 1048576 e input → StopsPrinting shown e input []
stops_run_input shown e input h = of_read_fault 1048576 (λ f. StopsPrinting shown f input []) input refl (λ long. (long, refl)) refl e h
