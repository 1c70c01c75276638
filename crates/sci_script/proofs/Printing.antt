-- What is so of each line that a command prints is so of all that a line may print.
use Rattle.std.proofs.Common.{◌≡◌, ℕ, zero, suc, Bool, true, false, List, [], ◌++◌, sym, subst, slice_index}
use Rattle.sci_words.specs.declared.memory.Mem.{Mem}
use Rattle.sci_words.specs.declared.tags.Tag.{Tag}
use Rattle.sci_ops.specs.declared.answers.Turn.{Turn as Outcome}
use Rattle.sci_script.specs.declared.commands.Command.{Command}
use Rattle.sci_script.specs.declared.commands.Command.TheVariants.{Begin, Turn, Done, Rest, End, List as ListLine, Tag as ShowTag, Show}
use Rattle.sci_script.specs.declared.desk.Look.{Look}
use Rattle.sci_script.specs.declared.said.Read.{Read}
use Rattle.sci_script.specs.declared.said.Read.TheVariants as reads
use Rattle.sci_script.specs.Request.{no_words}
use Rattle.sci_script.specs.Run.{EndsOpen, EndsOpenBy, Prints}
use Rattle.sci_script.specs.Shared.{Shared, shared_is_open, shared_does}
use Rattle.sci_script.specs.Talks.{Standing, Gathering, Going, Accepts, AcceptsBy, Takes}
use Rattle.sci_script.specs.Text.{turn_text, list_line, tag_line, look_line}
use Rattle.sci_script.specs.Words.{is_skipped}

-- this is so of nothing, of two texts together, and of each line that a command prints
pub record IsOfTexts (P : List ℕ → Type 0) : Type 0 where
  pub none : P []
  pub join : (a b : List ℕ) → P a → P b → P (a ++ b)
  pub turn : (node word : ℕ) (turn : Outcome) → P (turn_text node word turn)
  pub list : (line : ℕ) (mem : Mem) (entries : List (ℕ × Tag)) → P (list_line line mem entries)
  pub tag : (line node : ℕ) (tag : Tag) → P (tag_line line node tag)
  pub look : (look : Look) → P (look_line look)

of_nothing : (P : List ℕ → Type 0) → IsOfTexts P → (text : List ℕ) → text ≡ [] → P text
of_nothing P is text e = subst P (sym e) is.none

of_end : (P : List ℕ → Type 0) → IsOfTexts P → (b : Bool) (shown : List ℕ) (node : ℕ) (s : Shared) (text : List ℕ) (t : Shared) → EndsOpenBy b shared_does shown node s text t → P text
of_end P is true shown node s text t k = subst P (sym k.7) (is.turn node (slice_index shown node) k.4)
of_end P is false shown node s text t k = of_nothing P is text k.0

of_ends : (P : List ℕ → Type 0) → IsOfTexts P → (shown : List ℕ) (m : ℕ) (s : Shared) (text : List ℕ) (t : Shared) → EndsOpen shared_is_open shared_does shown m s text t → P text
unfolding EndsOpen
of_ends P is shown zero s text t k = of_nothing P is text k.0
of_ends P is shown (suc m) s text t (mid, first, last, before, now, e) =
    subst P (sym e) (is.join first last (of_ends P is shown m s first mid before) (of_end P is (shared_is_open mid m) shown m mid last t now))

of_printed : (P : List ℕ → Type 0) → IsOfTexts P → (shown : List ℕ) (s : Shared) (command : Command) (text : List ℕ) (t : Shared) → Prints shared_is_open shared_does shown s command text t → P text
of_printed P is shown s (Begin node line request) text t k = of_nothing P is text k.2
of_printed P is shown s (Turn node) text t k = subst P (sym k.3) (is.turn node (slice_index shown node) k.1)
of_printed P is shown s (Done node) text t k = subst P (sym k.8) (is.turn node (slice_index shown node) k.5)
of_printed P is shown s (Rest lines) text t k = of_nothing P is text k.1
of_printed P is shown s (End nodes lines) text t k = of_ends P is shown nodes k.0 text t k.2
of_printed P is shown s (ListLine line) text t k = subst P (sym k.5) (is.list line k.1 k.2)
of_printed P is shown s (ShowTag line node) text t k = subst P (sym k.2) (is.tag line node k.0)
of_printed P is shown s (Show ask) text t k = subst P (sym k.2) (is.look k.0)

of_taken : (P : List ℕ → Type 0) → IsOfTexts P → (s : Standing) (read : Read) (text : List ℕ) (t : Standing) → Takes s read text t → P text
of_taken P is (Gathering said) (reads.Command command) text t k = of_printed P is no_words k.0 command text k.1 k.3
of_taken P is (Going size shown s) (reads.Command command) text t k = of_printed P is shown s command text k.0 k.1
of_taken P is s read text t k = of_nothing P is text k.0

of_by : (P : List ℕ → Type 0) → IsOfTexts P → (b : Bool) (s t : Standing) (line text : List ℕ) → AcceptsBy b s line text t → P text
of_by P is true s t line text k = of_nothing P is text k.0
of_by P is false s t line text k = of_taken P is s k.0 text t k.2

pub of_accepted : (P : List ℕ → Type 0) → IsOfTexts P → (s t : Standing) (line text : List ℕ) → Accepts s line text t → P text
of_accepted P is s t line text k = of_by P is (is_skipped line) s t line text k
