-- What the command `check` writes of a log, by how that ended.
use Rattle.std.proofs.Common.{◌≡◌, ℕ, ◌<◌, List, [], length, take, Option, Some, None, IfSome, refl, inl, inr}
use Rattle.std.specs.Prelude.{codes}
use Rattle.std.proofs.KnownBytes.{Appends-nil}
use Rattle.std.proofs.lemmas.Option.{IfSome_then}
use Rattle.std.specs.Io.KnownBytes.{Appends}
use Rattle.sci_script.specs.declared.refusals.ScriptRefusal.TheVariants.{OutOfMemory, BadCommand, BadNumber}
use Rattle.sci_logs.specs.declared.entries.Deviation.{Deviation}
use Rattle.sci_logs.specs.declared.logs.LogFault.{LogFault}
use Rattle.sci_logs.specs.declared.parts.LineReason.{LineReason}
use Rattle.sci_logs.specs.Reasons.{StopsWhy}
use Rattle.sci_logs.specs.Streams.{FollowsAll, StopsWith}
use Rattle.sci_logs.proofs.Cutting.{without_why}
use Rattle.sci_serve.specs.declared.faults.SimFault.{SimFault}
use Rattle.sci_serve.specs.declared.faults.SimFault.TheVariants.{CannotRead, CannotWrite, Refused, Unlawful}
use Rattle.sci_serve.specs.Followed.{departure_line, IsFollowed, StopsFollowing}

-- what is told where the command fails
abbrev pub Stops : SimFault → Option (List ℕ) → Option (List ℕ) → Option (List ℕ) → Type 0
Stops e had old new = IfSome had (λ input. (written : List ℕ) × StopsFollowing e input written × Appends old new written)

pub follows_written : (had old new : Option (List ℕ)) → IfSome had FollowsAll → Appends old new (codes "follows\n") → IfSome had (λ input. FollowsAll input × Appends old new (codes "follows\n"))
follows_written had old new h appended = IfSome_then had h (λ input follows. (follows, appended))

pub follows_cut : (had old new : Option (List ℕ)) → IfSome had FollowsAll → ((n : ℕ) × (n < length (codes "follows\n")) × Appends old new (take n (codes "follows\n"))) → Stops CannotWrite had old new
follows_cut had old new h cut = IfSome_then had h (λ input follows. (take cut.0 (codes "follows\n"), (codes "follows\n", cut.0, inl (follows, refl), cut.1, refl), cut.2))

pub departs_written : (had old new : Option (List ℕ)) (number : ℕ) (d : Deviation) (why : Option LineReason) (text : List ℕ) → IfSome had (StopsWhy (LogFault.Departs number d) why) → text ≡ departure_line number d
    → Appends old new text → Stops Unlawful had old new
departs_written had old new number d why text h is appended = IfSome_then had (without_why had (LogFault.Departs number d) why h) (λ input departs. (text, (number, d, departs, is), appended))

pub departs_cut : (had old new : Option (List ℕ)) (number : ℕ) (d : Deviation) (why : Option LineReason) (text : List ℕ) → IfSome had (StopsWhy (LogFault.Departs number d) why) → text ≡ departure_line number d
    → ((n : ℕ) × (n < length text) × Appends old new (take n text)) → Stops CannotWrite had old new
departs_cut had old new number d why text h is cut = IfSome_then had (without_why had (LogFault.Departs number d) why h) (λ input departs. (take cut.0 text, (text, cut.0, inr (number, d, departs, is), cut.1, refl), cut.2))

-- nothing is written
silent : (had old : Option (List ℕ)) (e : SimFault) (fault : LogFault) (why : Option LineReason) → IfSome had (StopsWhy fault why) → ((input : List ℕ) → StopsWith fault input → StopsFollowing e input []) → Stops e had old old
silent had old e fault why h each = IfSome_then had (without_why had fault why h) (λ input stops. ([], each input stops, Appends-nil old))

pub unread : (had old : Option (List ℕ)) (why : Option LineReason) → IfSome had (StopsWhy LogFault.CannotRead why) → Stops CannotRead had old old
unread had old why h = silent had old CannotRead LogFault.CannotRead why h (λ input stops. refl)

pub no_memory : (had old : Option (List ℕ)) (fault : LogFault) (why : Option LineReason) → IfSome had (StopsWhy fault why) → Stops (Refused OutOfMemory) had old old
no_memory had old fault why h = silent had old (Refused OutOfMemory) fault why h (λ input stops. refl)

pub bad_line : (had old : Option (List ℕ)) (n : ℕ) (why : Option LineReason) → IfSome had (StopsWhy (LogFault.BadLine n) why) → Stops (Refused (BadCommand n)) had old old
bad_line had old n why h = silent had old (Refused (BadCommand n)) (LogFault.BadLine n) why h (λ input stops. (stops, refl))

pub bad_number : (had old : Option (List ℕ)) (n : ℕ) (why : Option LineReason) → IfSome had (StopsWhy (LogFault.BadNumber n) why) → Stops (Refused (BadNumber n)) had old old
bad_number had old n why h = silent had old (Refused (BadNumber n)) (LogFault.BadNumber n) why h (λ input stops. (stops, refl))

-- no reason is told
pub unexplained : (had : Option (List ℕ)) → IfSome had (λ input. ◌≡◌ {A = Option LineReason} None None)
unexplained None = tt
unexplained (Some input) = refl
