-- What an equation between pending steps, or between words, says of each field that the law reads.
use Rattle.std.proofs.Common.{◌≡◌, ap}
use Rattle.sci_words.specs.declared.tags.Tag.{Tag}
use Rattle.sci_words.specs.declared.memory.Mem.{Mem}
use Rattle.sci_core.specs.declared.pending.Pending.{Pending}
use Rattle.sci_core.specs.Shape.{phase_of, kept_of, flag_of, word_of, has_seen, seen_forw_of, seen_back_of, has_copy, line_of}

pub record TagFields (t u : Tag) : Type 0 where
  pub kind : t.kind ≡ u.kind
  pub held : t.held ≡ u.held
  pub forw : t.forw ≡ u.forw
  pub back : t.back ≡ u.back

pub tag_fields : {t u : Tag} → t ≡ u → TagFields t u
tag_fields {t} {u} e = record {
  kind = ap (λ (x : Tag). x.kind) e;
  held = ap (λ (x : Tag). x.held) e;
  forw = ap (λ (x : Tag). x.forw) e;
  back = ap (λ (x : Tag). x.back) e;
}

pub record MemFields (m k : Mem) : Type 0 where
  pub state : m.state ≡ k.state
  pub lent : m.lent ≡ k.lent
  pub forw : m.forw ≡ k.forw

pub mem_fields : {m k : Mem} → m ≡ k → MemFields m k
mem_fields {m} {k} e = record {
  state = ap (λ (x : Mem). x.state) e;
  lent = ap (λ (x : Mem). x.lent) e;
  forw = ap (λ (x : Mem). x.forw) e;
}

pub record StepFields (p q : Pending) : Type 0 where
  pub phase : phase_of p ≡ phase_of q
  pub kept : kept_of p ≡ kept_of q
  pub flag : flag_of p ≡ flag_of q
  pub word_kind : (word_of p).kind ≡ (word_of q).kind
  pub word_held : (word_of p).held ≡ (word_of q).held
  pub word_forw : (word_of p).forw ≡ (word_of q).forw
  pub word_back : (word_of p).back ≡ (word_of q).back
  pub seen : has_seen p ≡ has_seen q
  pub seen_forw : seen_forw_of p ≡ seen_forw_of q
  pub seen_back : seen_back_of p ≡ seen_back_of q
  pub copy : has_copy p ≡ has_copy q
  pub line : line_of p ≡ line_of q

pub step_fields : {p q : Pending} → p ≡ q → StepFields p q
step_fields {p} {q} e = record {
  phase = ap phase_of e;
  kept = ap kept_of e;
  flag = ap flag_of e;
  word_kind = ap (λ (x : Pending). (word_of x).kind) e;
  word_held = ap (λ (x : Pending). (word_of x).held) e;
  word_forw = ap (λ (x : Pending). (word_of x).forw) e;
  word_back = ap (λ (x : Pending). (word_of x).back) e;
  seen = ap has_seen e;
  seen_forw = ap seen_forw_of e;
  seen_back = ap seen_back_of e;
  copy = ap has_copy e;
  line = ap line_of e;
}
