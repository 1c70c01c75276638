-- Why a text of each format is refused, in words. This project's profile.
use Rattle.std.specs.Prelude.{◌≡◌, ℕ, List, Option, None, option_map}
use Rattle.sci_reasons.specs.Reasons.{IsWhyDump, IsWhyHistory}
use Rattle.sci_reasons.specs.declared.reasons.RowFault.{RowFault}
use Rattle.sci_script.specs.declared.reasons.Reason.{Reason}
use Rattle.sci_work.specs.declared.refusals.WorkRefusal.TheVariants.{BadSettings}
use Rattle.sci_serve.specs.declared.explaining.Explanation.{Explanation}
use Rattle.sci_serve.specs.declared.explaining.Explanation.TheVariants.{Command, Settings, Row}
use Rattle.sci_serve.specs.declared.explaining.Text.{Text}
use Rattle.sci_serve.specs.declared.explaining.Text.TheVariants as texts
use Rattle.sci_serve.specs.declared.faults.SimFault.{SimFault}
use Rattle.sci_serve.specs.declared.faults.SimFault.TheVariants.{NoDump, NoRun}
use Rattle.sci_settings.specs.declared.why.SettingsReason.{SettingsReason}
use Rattle.sci_serve.specs.Explained.{IsExplained}
use Rattle.sci_settings.specs.Settings.{IsWhySettings}

-- of settings: their reason, where they are refused 22
abbrev pub OfSettings : SimFault → List ℕ → Option SettingsReason → Type 0
OfSettings (NoRun BadSettings) input why = IsWhySettings input why
OfSettings fault input why = why ≡ None

-- of a dump and of a history: its reason, where it is refused 21
abbrev pub OfDump : SimFault → List ℕ → Option RowFault → Type 0
OfDump (NoDump n) input why = IsWhyDump input why
OfDump fault input why = why ≡ None

abbrev pub OfHistory : SimFault → List ℕ → Option RowFault → Type 0
OfHistory (NoDump n) input why = IsWhyHistory input why
OfHistory fault input why = why ≡ None

abbrev pub IsToldOf : Text → SimFault → List ℕ → Option Explanation → Type 0
IsToldOf texts.Script fault input why = (reason : Option Reason) × (why ≡ option_map Command reason) × IsExplained fault input reason
IsToldOf texts.Settings fault input why = (reason : Option SettingsReason) × (why ≡ option_map Settings reason) × OfSettings fault input reason
IsToldOf texts.Dump fault input why = (reason : Option RowFault) × (why ≡ option_map Row reason) × OfDump fault input reason
IsToldOf texts.History fault input why = (reason : Option RowFault) × (why ≡ option_map Row reason) × OfHistory fault input reason
