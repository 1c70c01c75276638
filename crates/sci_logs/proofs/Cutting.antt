-- A text's lines one after another, each fed to a log.
use Rattle.std.proofs.Common.{◌≡◌, ℕ, ◌+◌, ◌<◌, List, [], ◌∷◌, ◌++◌, length, Option, Some, None, IfSome, Result, Ok, Err, OnOk, IfErr, refl, sym, ap, subst, arith, length-append, inl, inr}
use Rattle.std.proofs.lemmas.Option.{IfSome_then}
use Rattle.std.specs.Io.BufRead.{take_through, drop_through, DropsThrough}
use Rattle.std.specs.Io.KnownBytes.{IsAtEnd}
use Rattle.std.proofs.BufReadLemmas.{take_through_nonempty}
use Rattle.sci_logs.specs.declared.logs.Log.{Log}
use Rattle.sci_logs.specs.declared.logs.LogFault.{LogFault}
use Rattle.sci_logs.specs.declared.parts.LineReason.{LineReason}
use Rattle.sci_logs.specs.Logs.{Feeds, Ends}
use Rattle.sci_logs.specs.Reasons.{EndsWhy, FaultsWhy, IsWhy, StopsWhy, due_of, would_tell}
use Rattle.sci_logs.specs.Streams.{Cuts, FeedsTo, Reaches, FollowsAll, StopsWith, without_end}
use Rattle.sci_logs.proofs.Lacking.{fed_tells}

cuts_more : (lines : List (List ℕ)) (text rest : List ℕ) → Cuts lines text rest → 0 < length rest → Cuts (lines ++ take_through 10 rest ∷ []) text (drop_through 10 rest)
cuts_more [] text rest e some = (subst (λ (x : List ℕ). 0 < length x) e some, ap (λ (x : List ℕ). take_through 10 x) e, ap (λ (x : List ℕ). drop_through 10 x) e)
cuts_more (line ∷ lines) text rest h some = (h.0, h.1, cuts_more lines (drop_through 10 text) rest h.2 some)

feeds_more : (n : ℕ) (lines : List (List ℕ)) (line : List ℕ) (log mid next : Log) → FeedsTo n lines log mid → Feeds (n + length lines) (without_end line) mid (Ok next) → FeedsTo n (lines ++ line ∷ []) log next
feeds_more n [] line log mid next e fed =
    let at : n + 0 ≡ n = omega arith in
    (next, subst (λ (k : ℕ). Feeds k (without_end line) log (Ok next)) at (subst (λ (x : Log). Feeds (n + 0) (without_end line) x (Ok next)) e fed), refl)
feeds_more n (first ∷ lines) line log mid next h fed =
    let at : n + length (first ∷ lines) ≡ n + 1 + length lines = omega arith in
    (h.0, h.1, feeds_more (n + 1) lines line h.0 mid next h.2 (subst (λ (k : ℕ). Feeds k (without_end line) mid (Ok next)) at fed))

reaches_more : (input : List ℕ) (lines : List (List ℕ)) (log next : Log) (rest : List ℕ) → Reaches input lines log rest → 0 < length rest
    → Feeds (length lines + 1) (without_end (take_through 10 rest)) log (Ok next) → Reaches input (lines ++ take_through 10 rest ∷ []) next (drop_through 10 rest)
reaches_more input lines log next rest h some fed =
    let at : length lines + 1 ≡ 1 + length lines = omega arith in
    record {
      cuts = cuts_more lines input rest h.cuts some;
      feeds = feeds_more 1 lines (take_through 10 rest) Log.New log next h.feeds (subst (λ (k : ℕ). Feeds k (without_end (take_through 10 rest)) log (Ok next)) at fed);
    }

-- what a reader had is without fault up to what it has left, in front of line n
abbrev pub Stands : Option (List ℕ) → Option (List ℕ) → Log → ℕ → Type 0
Stands a b log n = IfSome a (λ input. (lines : List (List ℕ)) × (rest : List ℕ) × (b ≡ Some rest) × Reaches input lines log rest × (n ≡ length lines + 1))

pub stands_first : (a : Option (List ℕ)) → Stands a a Log.New 1
stands_first None = tt
stands_first (Some input) = ([], input, refl, record { cuts = refl; feeds = refl }, refl)

pub stands_next : (a b c : Option (List ℕ)) (log next : Log) (n : ℕ) (line : List ℕ) → Stands a b log n → IfSome b (λ xs. line ≡ take_through 10 xs) → DropsThrough b c 10
    → 0 < length line → Feeds n (without_end line) log (Ok next) → Stands a c next (n + 1)
stands_next None b c log next n line h took drops some fed = tt
stands_next (Some input) b c log next n line h took drops some fed =
    let (lines, rest, is, reached, count) = h in
    let through : line ≡ take_through 10 rest = subst (λ (o : Option (List ℕ)). IfSome o (λ xs. line ≡ take_through 10 xs)) is took in
    let left : c ≡ Some (drop_through 10 rest) = subst (λ (o : Option (List ℕ)). DropsThrough o c 10) is drops in
    let more : 0 < length (take_through 10 rest) = subst (λ (x : List ℕ). 0 < length x) through some in
    let here : Feeds (length lines + 1) (without_end (take_through 10 rest)) log (Ok next) =
    subst (λ (x : List ℕ). Feeds (length lines + 1) (without_end x) log (Ok next)) through (subst (λ (k : ℕ). Feeds k (without_end line) log (Ok next)) count fed) in (
      lines ++ take_through 10 rest ∷ [],
      drop_through 10 rest,
      left,
      reaches_more input lines log next rest reached (take_through_nonempty 10 rest more) here,
      omega (arith, count, length-append lines (take_through 10 rest ∷ [])),
    )

of_fault : (e : LogFault) (why : Option LineReason) (input : List ℕ) → FaultsWhy e why input → StopsWhy e why input
of_fault LogFault.OutOfMemory why input h = let (log, rest, here, told) = h in told
of_fault (LogFault.BadLine n) why input h = h
of_fault (LogFault.BadNumber n) why input h = h
of_fault (LogFault.Departs n d) why input h = h
of_fault LogFault.CannotRead why input h = let (log, rest, here, told) = h in told

untold : (e : LogFault) (why : Option LineReason) (input : List ℕ) → StopsWhy e why input → StopsWith e input
untold LogFault.OutOfMemory why input h = tt
untold (LogFault.BadLine n) why input h = let (log, rest, here, told) = h in (log, rest, here)
untold (LogFault.BadNumber n) why input h = let (log, rest, here, told) = h in (log, rest, here)
untold (LogFault.Departs n d) why input h = let (log, rest, here, told) = h in (log, rest, here)
untold LogFault.CannotRead why input h = tt

pub without_why : (a : Option (List ℕ)) (e : LogFault) (why : Option LineReason) → IfSome a (StopsWhy e why) → IfSome a (StopsWith e)
without_why a e why h = IfSome_then a h (untold e why)

pub stops_here : (a b : Option (List ℕ)) (log : Log) (e : LogFault) (why : Option LineReason) (n : ℕ) (line : List ℕ) → Stands a b log n → IfSome b (λ xs. line ≡ take_through 10 xs) → 0 < length line
    → Feeds n (without_end line) log (Err e) → why ≡ would_tell e (due_of log) (without_end line) → IfSome a (StopsWhy e why)
stops_here None b log e why n line h took some fed told = tt
stops_here (Some input) b log e why n line h took some fed told =
    let (lines, rest, is, reached, count) = h in
    let through : line ≡ take_through 10 rest = subst (λ (o : Option (List ℕ)). IfSome o (λ xs. line ≡ take_through 10 xs)) is took in
    let more : 0 < length (take_through 10 rest) = subst (λ (x : List ℕ). 0 < length x) through some in
    let here : Feeds (length lines + 1) (without_end (take_through 10 rest)) log (Err e) =
    subst (λ (x : List ℕ). Feeds (length lines + 1) (without_end x) log (Err e)) through (subst (λ (k : ℕ). Feeds k (without_end line) log (Err e)) count fed) in
    let reason : IsWhy e (due_of log) (without_end (take_through 10 rest)) why = subst (λ (x : List ℕ). IsWhy e (due_of log) (without_end x) why) through (fed_tells n (without_end line) log e why fed told) in
    of_fault e why input (log, rest, (lines, reached, inl (take_through_nonempty 10 rest more, here)), reason)

at_end : (b : Option (List ℕ)) (rest : List ℕ) → b ≡ Some rest → IsAtEnd b → rest ≡ []
at_end b rest is h = subst (λ (o : Option (List ℕ)). IsAtEnd o) is h

stops_at_end : (a b : Option (List ℕ)) (log : Log) (e : LogFault) (why : Option LineReason) (n : ℕ) → Stands a b log n → IsAtEnd b → Ends n log (Err e) → IsWhy e (due_of log) [] why → IfSome a (StopsWhy e why)
stops_at_end None b log e why n h ended fed told = tt
stops_at_end (Some input) b log e why n h ended fed told =
    let (lines, rest, is, reached, count) = h in
    let over = at_end b rest is ended in
    let reason : IsWhy e (due_of log) (without_end (take_through 10 rest)) why = subst (λ (x : List ℕ). IsWhy e (due_of log) (without_end (take_through 10 x)) why) (sym over) told in
    of_fault e why input (log, rest, (lines, reached, inr (over, subst (λ (k : ℕ). Ends k log (Err e)) count fed)), reason)

follows_at_end : (a b : Option (List ℕ)) (log : Log) (n : ℕ) → Stands a b log n → IsAtEnd b → Ends n log (Ok tt) → IfSome a FollowsAll
follows_at_end None b log n h ended fed = tt
follows_at_end (Some input) b log n h ended fed =
    let (lines, rest, is, reached, count) = h in
    (lines, log, subst (λ (x : List ℕ). Reaches input lines log x) (at_end b rest is ended) reached, subst (λ (k : ℕ). Ends k log (Ok tt)) count fed)

pub ended_ok : (a b : Option (List ℕ)) (log : Log) (n : ℕ) (r : Result (Unit {0}) (LogFault × Option LineReason)) → Stands a b log n → IsAtEnd b → EndsWhy n log r → OnOk r (IfSome a FollowsAll)
ended_ok a b log n (Ok u) h ended fed = follows_at_end a b log n h ended fed
ended_ok a b log n (Err x) h ended fed = tt

pub ended_err : (a b : Option (List ℕ)) (log : Log) (n : ℕ) (r : Result (Unit {0}) (LogFault × Option LineReason)) → Stands a b log n → IsAtEnd b → EndsWhy n log r
    → IfErr r (λ x. IfSome a (StopsWhy x.0 x.1))
ended_err a b log n (Ok u) h ended fed = tt
ended_err a b log n (Err x) h ended fed = stops_at_end a b log x.0 x.1 n h ended fed.0 fed.1
