-- A talk's desk stays lawful, whatever was said and whatever was refused.
use Rattle.std.proofs.Common.{◌≡◌, ℕ, Bool, true, false, List, [], ◌∷◌, Result, Ok, Err, refl, sym, subst, ⊎_elim, if◌then◌else◌}
use Rattle.sci_script.specs.declared.commands.Command.{Command}
use Rattle.sci_script.specs.declared.commands.Size.{Size}
use Rattle.sci_script.specs.declared.reasons.Reason.{Reason}
use Rattle.sci_script.specs.declared.refusals.ScriptRefusal.{ScriptRefusal}
use Rattle.sci_script.specs.declared.refusals.ScriptRefusal.TheVariants.{NotDone}
use Rattle.sci_script.specs.declared.said.Read.{Read}
use Rattle.sci_script.specs.declared.said.Read.TheVariants as reads
use Rattle.sci_script.specs.Format.{with_read}
use Rattle.sci_script.specs.Grammar.{first_place, line_read}
use Rattle.sci_script.specs.Request.{no_words}
use Rattle.sci_script.specs.Run.{IsNoRest}
use Rattle.sci_script.specs.Shared.{shared_is_open, shared_does}
use Rattle.sci_script.specs.Size.{IsReadIn, IsSize}
use Rattle.sci_script.specs.Talks.{Standing, Silent, Gathering, Going, AcceptsBy, Declines, Hears, IsDeclined, Refuses, Stops, Takes, anew, begun, heard, is_late, place_of, said_step}
use Rattle.sci_script.specs.Words.{is_skipped}
use Rattle.sci_script.proofs.Fitting.{line_in, one_node}
use Rattle.sci_script.proofs.Lasting.{prints_keeps, stops_keeps}
use Rattle.sci_script.proofs.Reading.{same_ok}
use Rattle.sci_script.proofs.Sound.{IsSound, does_keeps, opens_sound}
use Rattle.sci_script.proofs.Unrefused.{never}

-- the desk, where there is one, is lawful
abbrev IsSteady : Standing → Type 0
IsSteady (Gathering said) = IsSize said.place.size
IsSteady (Going size shown desk) = IsSize size × IsSound size desk

begun_in : (size : Size) (first : Result Read Reason) (read : Read) → ((x : Read) → first ≡ Ok x → IsReadIn first_place.size x) → begun first ≡ Ok read → IsReadIn size read
begun_in size (Ok (reads.Memory said)) read k e = subst (λ (x : Read). IsReadIn size x) (same_ok (reads.Memory said) read e) (k (reads.Memory said) refl)
begun_in size first read k e = absurd (cc)

late_in : (late : Bool) (size : Size) (first : Result Read Reason) (reason : Reason) (read : Read) → ((x : Read) → first ≡ Ok x → IsReadIn first_place.size x)
    → (if late then begun first else Err reason) ≡ Ok read → IsReadIn size read
late_in true size first reason read k e = begun_in size first read k e
late_in false size first reason read k e = absurd (cc)

anew_in : (size : Size) (r first : Result Read Reason) (read : Read) → ((x : Read) → r ≡ Ok x → IsReadIn size x) → ((x : Read) → first ≡ Ok x → IsReadIn first_place.size x) → anew r first ≡ Ok read → IsReadIn size read
anew_in size (Ok x) first read h k e = h read e
anew_in size (Err reason) first read h k e = late_in (is_late reason) size first reason read k e

-- what a line says has the size of its place
heard_in : (s : Standing) → IsSteady s → (line : List ℕ) (read : Read) → heard s line ≡ Ok read → IsReadIn (place_of s).size read
heard_in (Gathering said) k line read is =
    anew_in said.place.size (line_read said.place line) (line_read first_place line) read (line_in said.place k line) (line_in first_place one_node line) is
heard_in (Going size shown desk) k line read is = line_in (place_of (Going size shown desk)) k.0 line read is

steady_as : (s t : Standing) → t ≡ s → IsSteady s → IsSteady t
steady_as s t e h = subst (λ (x : Standing). IsSteady x) (sym e) h

takes_keep : (s : Standing) (read : Read) (text : List ℕ) (t : Standing) → IsReadIn (place_of s).size read → Takes s read text t → IsSteady s → IsSteady t
takes_keep (Gathering said) (reads.Memory size) text t fits h k = steady_as (Gathering (with_read said 1 (reads.Memory size))) t h.1 fits
takes_keep (Gathering said) (reads.Capacity capacity) text t fits h k = steady_as (Gathering (with_read said 1 (reads.Capacity capacity))) t h.1 k
takes_keep (Gathering said) (reads.Open opening) text t fits h k = steady_as (Gathering (with_read said 1 (reads.Open opening))) t h.1 k
takes_keep (Gathering said) (reads.Command command) text t fits h k =
    let size = said.place.size in
    subst (λ (x : Standing). IsSteady x) (sym h.4)
    (k, prints_keeps shared_is_open shared_does size (λ x. IsSound size x) (does_keeps size) no_words h.0 command text h.1 fits h.3 (opens_sound size said.capacity said.openings h.0 h.2))
takes_keep (Going size shown s) (reads.Command command) text t fits h k =
    subst (λ (x : Standing). IsSteady x) (sym h.2) (k.0, prints_keeps shared_is_open shared_does size (λ x. IsSound size x) (does_keeps size) shown s command text h.0 fits h.1 k.1)
takes_keep (Going size shown s) read text t fits h k = steady_as (Going size shown s) t h.1 k

accepts_keep : (skips : Bool) (s : Standing) (line text : List ℕ) (t : Standing) → AcceptsBy skips s line text t → IsSteady s → IsSteady t
accepts_keep true s line text t h k = steady_as s t h.1 k
accepts_keep false s line text t h k = takes_keep s h.0 text t (heard_in s k line h.0 h.1) h.2 k

stops_keep : (s : Standing) (command : Command) (e : ScriptRefusal) (t : Standing) → IsReadIn (place_of s).size (reads.Command command) → Stops s command e t → IsSteady s → IsSteady t
stops_keep (Gathering said) command e t fits h k = steady_as (Gathering said) t h.1 k
stops_keep (Going size shown s) command e t fits h k =
    subst (λ (x : Standing). IsSteady x) (sym h.2) (k.0, stops_keeps shared_is_open shared_does size (λ x. IsSound size x) (does_keeps size) size.nodes s (said_step command) e h.0 fits h.1 k.1)

declined_keep : (s : Standing) (read : Read) (e : ScriptRefusal) (t : Standing) → IsReadIn (place_of s).size read → IsDeclined s read e t → IsSteady s → IsSteady t
declined_keep s (reads.Command command) e t fits h k = ⊎_elim (λ a. steady_as s t a.1 k) (λ b. stops_keep s command e t fits b k) h
declined_keep s read e t fits h k = steady_as s t h.1 k

declines_keep : (s : Standing) (r : Result Read Reason) (e : ScriptRefusal) (t : Standing) → ((read : Read) → r ≡ Ok read → IsReadIn (place_of s).size read) → Declines s r e t → IsSteady s → IsSteady t
declines_keep s (Ok read) e t fits h k = declined_keep s read e t (fits read refl) h k
declines_keep s (Err reason) e t fits h k = steady_as s t h.1 k

refuses_keep : (s : Standing) (line : List ℕ) (e : ScriptRefusal) (t : Standing) → Refuses s line e t → IsSteady s → IsSteady t
refuses_keep s line e t h k = declines_keep s (heard s line) e t (heard_in s k line) h.1 k

hears_keep : (s : Standing) (lines : List (List ℕ)) (t : Standing) → Hears s lines t → IsSteady s → IsSteady t
hears_keep s [] t h k = steady_as s t h k
hears_keep s (line ∷ lines) t h k =
    hears_keep h.0 lines t h.2 (⊎_elim (λ a. accepts_keep (is_skipped line) s line a.0 h.0 a.1 k) (λ b. refuses_keep s line b.0 h.0 b.1 k) h.1)

-- how a command stops that is said
never_stops : (s : Standing) (command : Command) (n : ℕ) (t : Standing) → IsReadIn (place_of s).size (reads.Command command) → Stops s command (NotDone n) t → IsSteady s → IsNoRest command
never_stops (Gathering said) command n t fits h k =
    let size = said.place.size in never size size.nodes h.0.0 h.0.1 command k fits (opens_sound size said.capacity said.openings h.0.0 h.0.2) h.0.3.1
never_stops (Going size shown s) command n t fits h k = never size size.nodes s h.0 command k.0 fits k.1 h.1.1

pub never_said : (before : List (List ℕ)) (line : List ℕ) (command : Command) (n : ℕ) (s t : Standing) → Hears Silent before s → heard s line ≡ Ok (reads.Command command) → Stops s command (NotDone n) t
    → IsNoRest command
never_said before line command n s t hears is stopped =
    let steady = hears_keep Silent before s hears one_node in never_stops s command n t (heard_in s steady line (reads.Command command) is) stopped steady
