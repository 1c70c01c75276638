-- What is written through a buffer, and where it stops when the writer fails.
use Rattle.std.proofs.Common.{◌≡◌, ℕ, ◌<◌, ◌+◌, ◌-◌, List, ◌++◌, length, take, Option, Some, None, IfSome, Result, Ok, Err, OnOk, IfErr, sym, ap, ◌∙◌, subst, arith, length-take-le}
use Rattle.std.proofs.Math.Seq.{take-append-add}
use Rattle.std.proofs.lemmas.List.{length-append}
use Rattle.std.specs.Io.KnownBytes.{Appends, append_known}
use Rattle.sci_serve.specs.declared.faults.SimFault.{SimFault}
use Rattle.sci_serve.specs.declared.faults.SimFault.TheVariants.{CannotRead, CannotWrite, InputTooLong, Refused, NoDump, Unlawful, NoRun}
use Rattle.sci_serve.specs.declared.scripts.Form.{Form}
use Rattle.sci_serve.specs.Serve.{Serves, Stops, LosesNothing, LeavesBehind}
use Rattle.sci_serve.proofs.Fronts.{front_of_text, front_of_stop}

-- a front of the buffer goes out, and not all: so a front of the text has gone out, and not all, if what was held before is still there
gone_out_front : (old mid new : Option (List ℕ)) (rest text : List ℕ) (n : ℕ) → Appends old (append_known mid rest) text → n < length rest → Appends mid new (take n rest)
    → LosesNothing old new → (m : ℕ) × (m < length text) × Appends old new (take m text)
gone_out_front None mid new rest text n p less q h = absurd h
gone_out_front (Some x) mid None rest text n p less q h = absurd h
gone_out_front (Some x) None (Some z) rest text n p less q h = absurd p
gone_out_front (Some x) (Some y) (Some z) rest text n p less q h =
    let m : ℕ = (length y + n) - length x in
    let long : length z ≡ length y + n = ap (length {A = ℕ}) q ∙ length-append y (take n rest) ∙ ap (λ (k : ℕ). length y + k) (length-take-le n rest (omega (arith, less))) in
    let whole : length y + length rest ≡ length x + length text = sym (length-append y rest) ∙ ap (length {A = ℕ}) p ∙ length-append x text in
    let sum : length y + n ≡ length x + m = omega (arith, h, long) in (
      m,
      omega (arith, h, long, whole, less),
      q ∙ sym (take-append-add y rest n) ∙ ap (take (length y + n)) p ∙ ap (λ (k : ℕ). take k (x ++ text)) sum ∙ take-append-add x text m,
    )

-- what is left behind where a write of the rest fails
pub left_cut : (limit : ℕ) (form : Form) (r : Result (Unit {0}) SimFault) (remaining old mid new held : Option (List ℕ)) (rest : List ℕ) → held ≡ append_known mid rest
    → OnOk r (IfSome remaining (λ input. (text : List ℕ) × Serves limit form input text × Appends old held text))
    → IfErr r (λ e. IfSome remaining (λ input. (written : List ℕ) × Stops limit form e input written × Appends old held written))
    → ((n : ℕ) × (n < length rest) × Appends mid new (take n rest)) → IfSome remaining (λ input. LeavesBehind limit form CannotWrite input old new)
left_cut limit form r None old mid new held rest is served stopped front = tt
left_cut limit form (Ok x) (Some input) old mid new held rest is (text, serves, appended) stopped (n, less, front) = λ h.
    let (m, short, gone) = gone_out_front old mid new rest text n (subst (λ (k : Option (List ℕ)). Appends old k text) is appended) less front h in
    (take m text, front_of_text limit form input text m short serves, gone)
left_cut limit form (Err e) (Some input) old mid new held rest is served (written, stops, appended) (n, less, front) = λ h.
    let (m, short, gone) = gone_out_front old mid new rest written n (subst (λ (k : Option (List ℕ)). Appends old k written) is appended) less front h in
    (take m written, front_of_stop limit form e input written m short stops, gone)

-- what the writer holds where the rest was written
put_through : (old mid new held : Option (List ℕ)) (rest text : List ℕ) → held ≡ append_known mid rest → Appends mid new rest → Appends old held text → Appends old new text
put_through None mid new held rest text is put appended = tt
put_through (Some x) None new held rest text is put appended = absurd (subst (λ (k : Option (List ℕ)). Appends (Some x) k text) is appended)
put_through (Some x) (Some y) None held rest text is put appended = absurd put
put_through (Some x) (Some y) (Some z) held rest text is put appended = put ∙ subst (λ (k : Option (List ℕ)). Appends (Some x) k text) is appended

-- and what is served is then there
pub put_behind : (limit : ℕ) (form : Form) (r : Result (Unit {0}) SimFault) (remaining old mid new held : Option (List ℕ)) (rest : List ℕ) → held ≡ append_known mid rest → Appends mid new rest
    → OnOk r (IfSome remaining (λ input. (text : List ℕ) × Serves limit form input text × Appends old held text))
    → OnOk r (IfSome remaining (λ input. (text : List ℕ) × Serves limit form input text × Appends old new text))
put_behind limit form (Err e) remaining old mid new held rest is put served = tt
put_behind limit form (Ok x) None old mid new held rest is put served = tt
put_behind limit form (Ok x) (Some input) old mid new held rest is put (text, serves, appended) = (text, serves, put_through old mid new held rest text is put appended)

-- and of a script that fails what was written before
pub left_behind : (limit : ℕ) (form : Form) (r : Result (Unit {0}) SimFault) (remaining old mid new held : Option (List ℕ)) (rest : List ℕ) → held ≡ append_known mid rest → Appends mid new rest
    → IfErr r (λ e. IfSome remaining (λ input. (written : List ℕ) × Stops limit form e input written × Appends old held written))
    → IfErr r (λ e. IfSome remaining (λ input. LeavesBehind limit form e input old new))
left_behind limit form (Ok x) remaining old mid new held rest is put stopped = tt
left_behind limit form (Err e) None old mid new held rest is put stopped = tt
left_behind limit form (Err CannotRead) (Some input) old mid new held rest is put (written, stops, appended) = (written, stops, put_through old mid new held rest written is put appended)
left_behind limit form (Err CannotWrite) (Some input) old mid new held rest is put (written, stops, appended) = λ h. (written, stops, put_through old mid new held rest written is put appended)
left_behind limit form (Err InputTooLong) (Some input) old mid new held rest is put (written, stops, appended) = (written, stops, put_through old mid new held rest written is put appended)
left_behind limit form (Err (Refused e)) (Some input) old mid new held rest is put (written, stops, appended) = (written, stops, put_through old mid new held rest written is put appended)
left_behind limit form (Err (NoDump n)) (Some input) old mid new held rest is put (written, stops, appended) = absurd stops
left_behind limit form (Err Unlawful) (Some input) old mid new held rest is put (written, stops, appended) = absurd stops
left_behind limit form (Err (NoRun e)) (Some input) old mid new held rest is put (written, stops, appended) = absurd stops
