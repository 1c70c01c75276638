-- Pages: their fronts, and what stands in them where a run fails.
use Rattle.std.proofs.Common.{◌≡◌, ◌∙◌, ◌<◌, ℕ, List, [], ◌++◌, length, take, true, false, Option, Result, Ok, Err, OnOk, IfErr, refl, sym, subst}
use Rattle.std.specs.Io.KnownBytes.{Appends}
use Rattle.std.proofs.KnownBytes.{Appends-trans}
use Rattle.std.proofs.Math.Seq.{take-length}
use Rattle.sci_script.specs.declared.commands.Step.{Step}
use Rattle.sci_script.specs.declared.refusals.ScriptRefusal.{ScriptRefusal}
use Rattle.sci_script.specs.declared.refusals.ScriptRefusal.TheVariants.{OutOfMemory, BadCommand, BadNumber, NotDone, WriteFailed}
use Rattle.sci_script.specs.Request.{no_words}
use Rattle.sci_script.specs.Shared.{Shared}
use Rattle.sci_trace.specs.Coding.{escaped, IsFront}
use Rattle.sci_trace.specs.Pages.{page_in, is_cut}
use Rattle.sci_trace.specs.Traces.{TracedTo, FormLeaves}
use Rattle.sci_trace.specs.Telling.{TellsAll}
use Rattle.sci_trace.proofs.Coded.{front_behind, front_before}
use Rattle.sci_trace.proofs.Tellings.{tells_none}
use Rattle.sci_trace.proofs.Tracing.{traced_so, traced_then, never_number}

-- a front of the page's front, of its text, and of its end is a front of the page
pub front_in_front : (front end text : List ℕ) (n : ℕ) → n < length front → IsFront (page_in front end text) (take n front)
front_in_front front end text n less =
    let (m, short, is) = front_before front (escaped text) n less in
    let (k, shorter, also) = front_before (front ++ escaped text) end m short in
    (k, shorter, is ∙ also)

pub front_in_text : (front end text : List ℕ) (n : ℕ) → n < length (escaped text) → IsFront (page_in front end text) (front ++ take n (escaped text))
front_in_text front end text n less =
    let (m, short, is) = front_behind front (escaped text) n less in
    let (k, shorter, also) = front_before (front ++ escaped text) end m short in
    (k, shorter, is ∙ also)

pub front_in_end : (front end text : List ℕ) (n : ℕ) → n < length end → IsFront (page_in front end text) ((front ++ escaped text) ++ take n end)
front_in_end front end text n less = front_behind (front ++ escaped text) end n less

-- a front of a text was written
pub front_written : (a b : Option (List ℕ)) (text written : List ℕ) → IsFront text written → Appends a b written → (n : ℕ) × (n < length text) × Appends a b (take n text)
front_written a b text written (n, less, is) appended = (n, less, subst (λ (x : List ℕ). Appends a b x) is appended)

-- so where the run has not begun
pub cut_in_front : (front end : List ℕ) (n : ℕ) (nodes : ℕ) (steps : List Step) (s t : Shared) → n < length front → FormLeaves (page_in front end) nodes steps s WriteFailed (take n front) t
cut_in_front front end n nodes steps s t less = ([], traced_so nodes steps 0 [] s s t (tells_none no_words s), front_in_front front end [] n less)

-- a front of the page, which ends in the text
pub cut_in_text : (front end written : List ℕ) (nodes : ℕ) (steps : List Step) (s t : Shared) → FormLeaves escaped nodes steps s WriteFailed written t
    → FormLeaves (page_in front end) nodes steps s WriteFailed (front ++ written) t
cut_in_text front end written nodes steps s t (traced, so_far, (n, less, is)) =
    let (m, short, now) = front_behind front (escaped traced) n less in
    let (k, shorter, also) = front_before (front ++ escaped traced) end m short in
    (traced, so_far, subst (λ (x : List ℕ). IsFront (page_in front end traced) (front ++ x)) (sym is) (k, shorter, now ∙ also))

-- a front of the page, which ends in its end
pub cut_in_end : (front end traced : List ℕ) (n : ℕ) (nodes : ℕ) (steps : List Step) (s t : Shared) → TracedTo nodes steps s WriteFailed traced t → n < length end
    → FormLeaves (page_in front end) nodes steps s WriteFailed ((front ++ escaped traced) ++ take n end) t
cut_in_end front end traced n nodes steps s t so_far less = (traced, so_far, front_in_end front end traced n less)

pub cut_then : (r : Result (Unit {0}) ScriptRefusal) (P : ScriptRefusal → Type 0) → is_cut r ≡ true → IfErr r P → P WriteFailed
cut_then (Ok done) P is h = absurd (let q : false ≡ true = is in cc)
cut_then (Err OutOfMemory) P is h = absurd (let q : false ≡ true = is in cc)
cut_then (Err (BadCommand n)) P is h = absurd (let q : false ≡ true = is in cc)
cut_then (Err (BadNumber n)) P is h = absurd (let q : false ≡ true = is in cc)
cut_then (Err (NotDone n)) P is h = absurd (let q : false ≡ true = is in cc)
cut_then (Err WriteFailed) P is h = h

-- where the writer took all of it, the whole of what was traced stands there
pub whole_then : (r : Result (Unit {0}) ScriptRefusal) (nodes : ℕ) (steps : List Step) (s t : Shared) (a b : Option (List ℕ)) → is_cut r ≡ false
    → OnOk r ((traced : List ℕ) × TellsAll no_words s steps traced t × Appends a b (escaped traced))
    → IfErr r (λ e. (written : List ℕ) × FormLeaves escaped nodes steps s e written t × Appends a b written)
    → (traced : List ℕ) × TracedTo nodes steps s WriteFailed traced t × Appends a b (escaped traced)
whole_then (Ok done) nodes steps s t a b is (traced, all, appended) stopped =
    (traced, traced_so nodes steps (length steps) traced s t t (subst (λ (x : List Step). TellsAll no_words s x traced t) (sym (take-length steps)) all), appended)
whole_then (Err OutOfMemory) nodes steps s t a b is done (written, (traced, so_far, whole), appended) =
    (traced, traced_then nodes steps OutOfMemory traced s t so_far, subst (λ (x : List ℕ). Appends a b x) whole appended)
whole_then (Err (BadCommand n)) nodes steps s t a b is done (written, (traced, so_far, whole), appended) =
    (traced, traced_then nodes steps (BadCommand n) traced s t so_far, subst (λ (x : List ℕ). Appends a b x) whole appended)
whole_then (Err (BadNumber n)) nodes steps s t a b is done (written, (traced, so_far, whole), appended) = absurd (never_number nodes steps n traced s t so_far)
whole_then (Err (NotDone n)) nodes steps s t a b is done (written, (traced, so_far, whole), appended) =
    (traced, traced_then nodes steps (NotDone n) traced s t so_far, subst (λ (x : List ℕ). Appends a b x) whole appended)
whole_then (Err WriteFailed) nodes steps s t a b is done stopped = absurd (let q : true ≡ false = is in cc)

closed : (front end : List ℕ) (nodes : ℕ) (steps : List Step) (s t : Shared) (a b c d : Option (List ℕ)) (written traced : List ℕ) → Appends a b front → Appends b c written
    → Appends c d end → written ≡ escaped traced → Appends a d (page_in front end traced)
closed front end nodes steps s t a b c d written traced before text behind whole =
    Appends-trans a c d (front ++ escaped traced) end (Appends-trans a b c front (escaped traced) before (subst (λ (x : List ℕ). Appends b c x) whole text)) behind

-- a page of what was traced before a refusal
pub closed_then : (r : Result (Unit {0}) ScriptRefusal) (front end : List ℕ) (nodes : ℕ) (steps : List Step) (s t : Shared) (a b c d : Option (List ℕ)) → is_cut r ≡ false
    → Appends a b front → IfErr r (λ e. (written : List ℕ) × FormLeaves escaped nodes steps s e written t × Appends b c written) → Appends c d end
    → IfErr r (λ e. (written : List ℕ) × FormLeaves (page_in front end) nodes steps s e written t × Appends a d written)
closed_then (Ok done) front end nodes steps s t a b c d is before stopped behind = tt
closed_then (Err OutOfMemory) front end nodes steps s t a b c d is before (written, (traced, so_far, whole), text) behind =
    (page_in front end traced, (traced, so_far, refl), closed front end nodes steps s t a b c d written traced before text behind whole)
closed_then (Err (BadCommand n)) front end nodes steps s t a b c d is before (written, (traced, so_far, whole), text) behind =
    (page_in front end traced, (traced, so_far, refl), closed front end nodes steps s t a b c d written traced before text behind whole)
closed_then (Err (BadNumber n)) front end nodes steps s t a b c d is before (written, (traced, so_far, whole), text) behind = absurd (never_number nodes steps n traced s t so_far)
closed_then (Err (NotDone n)) front end nodes steps s t a b c d is before (written, (traced, so_far, whole), text) behind =
    (page_in front end traced, (traced, so_far, refl), closed front end nodes steps s t a b c d written traced before text behind whole)
closed_then (Err WriteFailed) front end nodes steps s t a b c d is before stopped behind = absurd (let q : true ≡ false = is in cc)
