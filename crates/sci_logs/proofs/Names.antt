-- Names one after another: the first that stands in front says which it is.
use Rattle.std.proofs.Common.{◌≡◌, ◌∙◌, List, ℕ, Option, Some, None, ap}
use Rattle.std.specs.Prelude.{codes}
use Rattle.sci_core.specs.declared.events.Event.{Event}
use Rattle.sci_dump.specs.Reading.{behind}
use Rattle.sci_logs.specs.declared.told.Asks.{Asks}
use Rattle.sci_logs.specs.Names.{either, leaving_event_at, memory_event_at, other_asks_at}

hit : {A : Type 0} (x : A) (o : Option (List ℕ)) (rest : List ℕ) (other : Option (A × List ℕ)) → o ≡ Some rest → either x o other ≡ Some (x, rest)
hit x o rest other e = ap (λ (y : Option (List ℕ)). either x y other) e

miss : {A : Type 0} (x : A) (o : Option (List ℕ)) (other : Option (A × List ℕ)) → o ≡ None → either x o other ≡ other
miss x o other e = ap (λ (y : Option (List ℕ)). either x y other) e

pub memory_event_0 : (text rest : List ℕ) → behind (codes "PrependValid") text ≡ Some rest → memory_event_at text ≡ Some (Event.PrependValid, rest)
unfolding memory_event_at
memory_event_0 text rest h = hit Event.PrependValid (behind (codes "PrependValid") text) rest (either Event.ReturnMemory (behind (codes "ReturnMemory") text) (either Event.PrependGone (behind (codes "PrependGone") text) (either Event.HomeWrite (behind (codes "HomeWrite") text) (either Event.FreshToGone (behind (codes "FreshToGone") text) None)))) h

pub memory_event_1 : (text rest : List ℕ) → behind (codes "PrependValid") text ≡ None → behind (codes "ReturnMemory") text ≡ Some rest → memory_event_at text ≡ Some (Event.ReturnMemory, rest)
unfolding memory_event_at
memory_event_1 text rest m0 h = miss Event.PrependValid (behind (codes "PrependValid") text) (either Event.ReturnMemory (behind (codes "ReturnMemory") text) (either Event.PrependGone (behind (codes "PrependGone") text) (either Event.HomeWrite (behind (codes "HomeWrite") text) (either Event.FreshToGone (behind (codes "FreshToGone") text) None)))) m0 ∙ hit Event.ReturnMemory (behind (codes "ReturnMemory") text) rest (either Event.PrependGone (behind (codes "PrependGone") text) (either Event.HomeWrite (behind (codes "HomeWrite") text) (either Event.FreshToGone (behind (codes "FreshToGone") text) None))) h

pub memory_event_2 : (text rest : List ℕ) → behind (codes "PrependValid") text ≡ None → behind (codes "ReturnMemory") text ≡ None → behind (codes "PrependGone") text ≡ Some rest → memory_event_at text ≡ Some (Event.PrependGone, rest)
unfolding memory_event_at
memory_event_2 text rest m0 m1 h = miss Event.PrependValid (behind (codes "PrependValid") text) (either Event.ReturnMemory (behind (codes "ReturnMemory") text) (either Event.PrependGone (behind (codes "PrependGone") text) (either Event.HomeWrite (behind (codes "HomeWrite") text) (either Event.FreshToGone (behind (codes "FreshToGone") text) None)))) m0 ∙ miss Event.ReturnMemory (behind (codes "ReturnMemory") text) (either Event.PrependGone (behind (codes "PrependGone") text) (either Event.HomeWrite (behind (codes "HomeWrite") text) (either Event.FreshToGone (behind (codes "FreshToGone") text) None))) m1 ∙ hit Event.PrependGone (behind (codes "PrependGone") text) rest (either Event.HomeWrite (behind (codes "HomeWrite") text) (either Event.FreshToGone (behind (codes "FreshToGone") text) None)) h

pub memory_event_3 : (text rest : List ℕ) → behind (codes "PrependValid") text ≡ None → behind (codes "ReturnMemory") text ≡ None → behind (codes "PrependGone") text ≡ None → behind (codes "HomeWrite") text ≡ Some rest → memory_event_at text ≡ Some (Event.HomeWrite, rest)
unfolding memory_event_at
memory_event_3 text rest m0 m1 m2 h = miss Event.PrependValid (behind (codes "PrependValid") text) (either Event.ReturnMemory (behind (codes "ReturnMemory") text) (either Event.PrependGone (behind (codes "PrependGone") text) (either Event.HomeWrite (behind (codes "HomeWrite") text) (either Event.FreshToGone (behind (codes "FreshToGone") text) None)))) m0 ∙ miss Event.ReturnMemory (behind (codes "ReturnMemory") text) (either Event.PrependGone (behind (codes "PrependGone") text) (either Event.HomeWrite (behind (codes "HomeWrite") text) (either Event.FreshToGone (behind (codes "FreshToGone") text) None))) m1 ∙ miss Event.PrependGone (behind (codes "PrependGone") text) (either Event.HomeWrite (behind (codes "HomeWrite") text) (either Event.FreshToGone (behind (codes "FreshToGone") text) None)) m2 ∙ hit Event.HomeWrite (behind (codes "HomeWrite") text) rest (either Event.FreshToGone (behind (codes "FreshToGone") text) None) h

pub memory_event_4 : (text rest : List ℕ) → behind (codes "PrependValid") text ≡ None → behind (codes "ReturnMemory") text ≡ None → behind (codes "PrependGone") text ≡ None → behind (codes "HomeWrite") text ≡ None → behind (codes "FreshToGone") text ≡ Some rest → memory_event_at text ≡ Some (Event.FreshToGone, rest)
unfolding memory_event_at
memory_event_4 text rest m0 m1 m2 m3 h = miss Event.PrependValid (behind (codes "PrependValid") text) (either Event.ReturnMemory (behind (codes "ReturnMemory") text) (either Event.PrependGone (behind (codes "PrependGone") text) (either Event.HomeWrite (behind (codes "HomeWrite") text) (either Event.FreshToGone (behind (codes "FreshToGone") text) None)))) m0 ∙ miss Event.ReturnMemory (behind (codes "ReturnMemory") text) (either Event.PrependGone (behind (codes "PrependGone") text) (either Event.HomeWrite (behind (codes "HomeWrite") text) (either Event.FreshToGone (behind (codes "FreshToGone") text) None))) m1 ∙ miss Event.PrependGone (behind (codes "PrependGone") text) (either Event.HomeWrite (behind (codes "HomeWrite") text) (either Event.FreshToGone (behind (codes "FreshToGone") text) None)) m2 ∙ miss Event.HomeWrite (behind (codes "HomeWrite") text) (either Event.FreshToGone (behind (codes "FreshToGone") text) None) m3 ∙ hit Event.FreshToGone (behind (codes "FreshToGone") text) rest None h

pub memory_event_none : (text : List ℕ) → behind (codes "PrependValid") text ≡ None → behind (codes "ReturnMemory") text ≡ None → behind (codes "PrependGone") text ≡ None → behind (codes "HomeWrite") text ≡ None → behind (codes "FreshToGone") text ≡ None → memory_event_at text ≡ None
unfolding memory_event_at
memory_event_none text m0 m1 m2 m3 m4 = miss Event.PrependValid (behind (codes "PrependValid") text) (either Event.ReturnMemory (behind (codes "ReturnMemory") text) (either Event.PrependGone (behind (codes "PrependGone") text) (either Event.HomeWrite (behind (codes "HomeWrite") text) (either Event.FreshToGone (behind (codes "FreshToGone") text) None)))) m0 ∙ miss Event.ReturnMemory (behind (codes "ReturnMemory") text) (either Event.PrependGone (behind (codes "PrependGone") text) (either Event.HomeWrite (behind (codes "HomeWrite") text) (either Event.FreshToGone (behind (codes "FreshToGone") text) None))) m1 ∙ miss Event.PrependGone (behind (codes "PrependGone") text) (either Event.HomeWrite (behind (codes "HomeWrite") text) (either Event.FreshToGone (behind (codes "FreshToGone") text) None)) m2 ∙ miss Event.HomeWrite (behind (codes "HomeWrite") text) (either Event.FreshToGone (behind (codes "FreshToGone") text) None) m3 ∙ miss Event.FreshToGone (behind (codes "FreshToGone") text) None m4

pub leaving_event_0 : (text rest : List ℕ) → behind (codes "PassOn") text ≡ Some rest → leaving_event_at text ≡ Some (Event.PassOn, rest)
unfolding leaving_event_at
leaving_event_0 text rest h = hit Event.PassOn (behind (codes "PassOn") text) rest (either Event.ReturnHomeFresh (behind (codes "ReturnHomeFresh") text) (either Event.ReturnHomeDirty (behind (codes "ReturnHomeDirty") text) None)) h

pub leaving_event_1 : (text rest : List ℕ) → behind (codes "PassOn") text ≡ None → behind (codes "ReturnHomeFresh") text ≡ Some rest → leaving_event_at text ≡ Some (Event.ReturnHomeFresh, rest)
unfolding leaving_event_at
leaving_event_1 text rest m0 h = miss Event.PassOn (behind (codes "PassOn") text) (either Event.ReturnHomeFresh (behind (codes "ReturnHomeFresh") text) (either Event.ReturnHomeDirty (behind (codes "ReturnHomeDirty") text) None)) m0 ∙ hit Event.ReturnHomeFresh (behind (codes "ReturnHomeFresh") text) rest (either Event.ReturnHomeDirty (behind (codes "ReturnHomeDirty") text) None) h

pub leaving_event_2 : (text rest : List ℕ) → behind (codes "PassOn") text ≡ None → behind (codes "ReturnHomeFresh") text ≡ None → behind (codes "ReturnHomeDirty") text ≡ Some rest → leaving_event_at text ≡ Some (Event.ReturnHomeDirty, rest)
unfolding leaving_event_at
leaving_event_2 text rest m0 m1 h = miss Event.PassOn (behind (codes "PassOn") text) (either Event.ReturnHomeFresh (behind (codes "ReturnHomeFresh") text) (either Event.ReturnHomeDirty (behind (codes "ReturnHomeDirty") text) None)) m0 ∙ miss Event.ReturnHomeFresh (behind (codes "ReturnHomeFresh") text) (either Event.ReturnHomeDirty (behind (codes "ReturnHomeDirty") text) None) m1 ∙ hit Event.ReturnHomeDirty (behind (codes "ReturnHomeDirty") text) rest None h

pub leaving_event_none : (text : List ℕ) → behind (codes "PassOn") text ≡ None → behind (codes "ReturnHomeFresh") text ≡ None → behind (codes "ReturnHomeDirty") text ≡ None → leaving_event_at text ≡ None
unfolding leaving_event_at
leaving_event_none text m0 m1 m2 = miss Event.PassOn (behind (codes "PassOn") text) (either Event.ReturnHomeFresh (behind (codes "ReturnHomeFresh") text) (either Event.ReturnHomeDirty (behind (codes "ReturnHomeDirty") text) None)) m0 ∙ miss Event.ReturnHomeFresh (behind (codes "ReturnHomeFresh") text) (either Event.ReturnHomeDirty (behind (codes "ReturnHomeDirty") text) None) m1 ∙ miss Event.ReturnHomeDirty (behind (codes "ReturnHomeDirty") text) None m2

pub other_asks_0 : (text rest : List ℕ) → behind (codes "AttachFresh") text ≡ Some rest → other_asks_at text ≡ Some (Asks.AttachFresh, rest)
unfolding other_asks_at
other_asks_0 text rest h = hit Asks.AttachFresh (behind (codes "AttachFresh") text) rest (either Asks.AttachDirty (behind (codes "AttachDirty") text) (either Asks.PurgeOne (behind (codes "PurgeOne") text) (either Asks.TellSuccessor (behind (codes "TellSuccessor") text) (either Asks.TellPredecessor (behind (codes "TellPredecessor") text) (either Asks.Adopt (behind (codes "Adopt") text) (either Asks.Promote (behind (codes "Promote") text) None)))))) h

pub other_asks_1 : (text rest : List ℕ) → behind (codes "AttachFresh") text ≡ None → behind (codes "AttachDirty") text ≡ Some rest → other_asks_at text ≡ Some (Asks.AttachDirty, rest)
unfolding other_asks_at
other_asks_1 text rest m0 h = miss Asks.AttachFresh (behind (codes "AttachFresh") text) (either Asks.AttachDirty (behind (codes "AttachDirty") text) (either Asks.PurgeOne (behind (codes "PurgeOne") text) (either Asks.TellSuccessor (behind (codes "TellSuccessor") text) (either Asks.TellPredecessor (behind (codes "TellPredecessor") text) (either Asks.Adopt (behind (codes "Adopt") text) (either Asks.Promote (behind (codes "Promote") text) None)))))) m0 ∙ hit Asks.AttachDirty (behind (codes "AttachDirty") text) rest (either Asks.PurgeOne (behind (codes "PurgeOne") text) (either Asks.TellSuccessor (behind (codes "TellSuccessor") text) (either Asks.TellPredecessor (behind (codes "TellPredecessor") text) (either Asks.Adopt (behind (codes "Adopt") text) (either Asks.Promote (behind (codes "Promote") text) None))))) h

pub other_asks_2 : (text rest : List ℕ) → behind (codes "AttachFresh") text ≡ None → behind (codes "AttachDirty") text ≡ None → behind (codes "PurgeOne") text ≡ Some rest → other_asks_at text ≡ Some (Asks.PurgeOne, rest)
unfolding other_asks_at
other_asks_2 text rest m0 m1 h = miss Asks.AttachFresh (behind (codes "AttachFresh") text) (either Asks.AttachDirty (behind (codes "AttachDirty") text) (either Asks.PurgeOne (behind (codes "PurgeOne") text) (either Asks.TellSuccessor (behind (codes "TellSuccessor") text) (either Asks.TellPredecessor (behind (codes "TellPredecessor") text) (either Asks.Adopt (behind (codes "Adopt") text) (either Asks.Promote (behind (codes "Promote") text) None)))))) m0 ∙ miss Asks.AttachDirty (behind (codes "AttachDirty") text) (either Asks.PurgeOne (behind (codes "PurgeOne") text) (either Asks.TellSuccessor (behind (codes "TellSuccessor") text) (either Asks.TellPredecessor (behind (codes "TellPredecessor") text) (either Asks.Adopt (behind (codes "Adopt") text) (either Asks.Promote (behind (codes "Promote") text) None))))) m1 ∙ hit Asks.PurgeOne (behind (codes "PurgeOne") text) rest (either Asks.TellSuccessor (behind (codes "TellSuccessor") text) (either Asks.TellPredecessor (behind (codes "TellPredecessor") text) (either Asks.Adopt (behind (codes "Adopt") text) (either Asks.Promote (behind (codes "Promote") text) None)))) h

pub other_asks_3 : (text rest : List ℕ) → behind (codes "AttachFresh") text ≡ None → behind (codes "AttachDirty") text ≡ None → behind (codes "PurgeOne") text ≡ None → behind (codes "TellSuccessor") text ≡ Some rest → other_asks_at text ≡ Some (Asks.TellSuccessor, rest)
unfolding other_asks_at
other_asks_3 text rest m0 m1 m2 h = miss Asks.AttachFresh (behind (codes "AttachFresh") text) (either Asks.AttachDirty (behind (codes "AttachDirty") text) (either Asks.PurgeOne (behind (codes "PurgeOne") text) (either Asks.TellSuccessor (behind (codes "TellSuccessor") text) (either Asks.TellPredecessor (behind (codes "TellPredecessor") text) (either Asks.Adopt (behind (codes "Adopt") text) (either Asks.Promote (behind (codes "Promote") text) None)))))) m0 ∙ miss Asks.AttachDirty (behind (codes "AttachDirty") text) (either Asks.PurgeOne (behind (codes "PurgeOne") text) (either Asks.TellSuccessor (behind (codes "TellSuccessor") text) (either Asks.TellPredecessor (behind (codes "TellPredecessor") text) (either Asks.Adopt (behind (codes "Adopt") text) (either Asks.Promote (behind (codes "Promote") text) None))))) m1 ∙ miss Asks.PurgeOne (behind (codes "PurgeOne") text) (either Asks.TellSuccessor (behind (codes "TellSuccessor") text) (either Asks.TellPredecessor (behind (codes "TellPredecessor") text) (either Asks.Adopt (behind (codes "Adopt") text) (either Asks.Promote (behind (codes "Promote") text) None)))) m2 ∙ hit Asks.TellSuccessor (behind (codes "TellSuccessor") text) rest (either Asks.TellPredecessor (behind (codes "TellPredecessor") text) (either Asks.Adopt (behind (codes "Adopt") text) (either Asks.Promote (behind (codes "Promote") text) None))) h

pub other_asks_4 : (text rest : List ℕ) → behind (codes "AttachFresh") text ≡ None → behind (codes "AttachDirty") text ≡ None → behind (codes "PurgeOne") text ≡ None → behind (codes "TellSuccessor") text ≡ None → behind (codes "TellPredecessor") text ≡ Some rest → other_asks_at text ≡ Some (Asks.TellPredecessor, rest)
unfolding other_asks_at
other_asks_4 text rest m0 m1 m2 m3 h = miss Asks.AttachFresh (behind (codes "AttachFresh") text) (either Asks.AttachDirty (behind (codes "AttachDirty") text) (either Asks.PurgeOne (behind (codes "PurgeOne") text) (either Asks.TellSuccessor (behind (codes "TellSuccessor") text) (either Asks.TellPredecessor (behind (codes "TellPredecessor") text) (either Asks.Adopt (behind (codes "Adopt") text) (either Asks.Promote (behind (codes "Promote") text) None)))))) m0 ∙ miss Asks.AttachDirty (behind (codes "AttachDirty") text) (either Asks.PurgeOne (behind (codes "PurgeOne") text) (either Asks.TellSuccessor (behind (codes "TellSuccessor") text) (either Asks.TellPredecessor (behind (codes "TellPredecessor") text) (either Asks.Adopt (behind (codes "Adopt") text) (either Asks.Promote (behind (codes "Promote") text) None))))) m1 ∙ miss Asks.PurgeOne (behind (codes "PurgeOne") text) (either Asks.TellSuccessor (behind (codes "TellSuccessor") text) (either Asks.TellPredecessor (behind (codes "TellPredecessor") text) (either Asks.Adopt (behind (codes "Adopt") text) (either Asks.Promote (behind (codes "Promote") text) None)))) m2 ∙ miss Asks.TellSuccessor (behind (codes "TellSuccessor") text) (either Asks.TellPredecessor (behind (codes "TellPredecessor") text) (either Asks.Adopt (behind (codes "Adopt") text) (either Asks.Promote (behind (codes "Promote") text) None))) m3 ∙ hit Asks.TellPredecessor (behind (codes "TellPredecessor") text) rest (either Asks.Adopt (behind (codes "Adopt") text) (either Asks.Promote (behind (codes "Promote") text) None)) h

pub other_asks_5 : (text rest : List ℕ) → behind (codes "AttachFresh") text ≡ None → behind (codes "AttachDirty") text ≡ None → behind (codes "PurgeOne") text ≡ None → behind (codes "TellSuccessor") text ≡ None → behind (codes "TellPredecessor") text ≡ None → behind (codes "Adopt") text ≡ Some rest → other_asks_at text ≡ Some (Asks.Adopt, rest)
unfolding other_asks_at
other_asks_5 text rest m0 m1 m2 m3 m4 h = miss Asks.AttachFresh (behind (codes "AttachFresh") text) (either Asks.AttachDirty (behind (codes "AttachDirty") text) (either Asks.PurgeOne (behind (codes "PurgeOne") text) (either Asks.TellSuccessor (behind (codes "TellSuccessor") text) (either Asks.TellPredecessor (behind (codes "TellPredecessor") text) (either Asks.Adopt (behind (codes "Adopt") text) (either Asks.Promote (behind (codes "Promote") text) None)))))) m0 ∙ miss Asks.AttachDirty (behind (codes "AttachDirty") text) (either Asks.PurgeOne (behind (codes "PurgeOne") text) (either Asks.TellSuccessor (behind (codes "TellSuccessor") text) (either Asks.TellPredecessor (behind (codes "TellPredecessor") text) (either Asks.Adopt (behind (codes "Adopt") text) (either Asks.Promote (behind (codes "Promote") text) None))))) m1 ∙ miss Asks.PurgeOne (behind (codes "PurgeOne") text) (either Asks.TellSuccessor (behind (codes "TellSuccessor") text) (either Asks.TellPredecessor (behind (codes "TellPredecessor") text) (either Asks.Adopt (behind (codes "Adopt") text) (either Asks.Promote (behind (codes "Promote") text) None)))) m2 ∙ miss Asks.TellSuccessor (behind (codes "TellSuccessor") text) (either Asks.TellPredecessor (behind (codes "TellPredecessor") text) (either Asks.Adopt (behind (codes "Adopt") text) (either Asks.Promote (behind (codes "Promote") text) None))) m3 ∙ miss Asks.TellPredecessor (behind (codes "TellPredecessor") text) (either Asks.Adopt (behind (codes "Adopt") text) (either Asks.Promote (behind (codes "Promote") text) None)) m4 ∙ hit Asks.Adopt (behind (codes "Adopt") text) rest (either Asks.Promote (behind (codes "Promote") text) None) h

pub other_asks_6 : (text rest : List ℕ) → behind (codes "AttachFresh") text ≡ None → behind (codes "AttachDirty") text ≡ None → behind (codes "PurgeOne") text ≡ None → behind (codes "TellSuccessor") text ≡ None → behind (codes "TellPredecessor") text ≡ None → behind (codes "Adopt") text ≡ None → behind (codes "Promote") text ≡ Some rest → other_asks_at text ≡ Some (Asks.Promote, rest)
unfolding other_asks_at
other_asks_6 text rest m0 m1 m2 m3 m4 m5 h = miss Asks.AttachFresh (behind (codes "AttachFresh") text) (either Asks.AttachDirty (behind (codes "AttachDirty") text) (either Asks.PurgeOne (behind (codes "PurgeOne") text) (either Asks.TellSuccessor (behind (codes "TellSuccessor") text) (either Asks.TellPredecessor (behind (codes "TellPredecessor") text) (either Asks.Adopt (behind (codes "Adopt") text) (either Asks.Promote (behind (codes "Promote") text) None)))))) m0 ∙ miss Asks.AttachDirty (behind (codes "AttachDirty") text) (either Asks.PurgeOne (behind (codes "PurgeOne") text) (either Asks.TellSuccessor (behind (codes "TellSuccessor") text) (either Asks.TellPredecessor (behind (codes "TellPredecessor") text) (either Asks.Adopt (behind (codes "Adopt") text) (either Asks.Promote (behind (codes "Promote") text) None))))) m1 ∙ miss Asks.PurgeOne (behind (codes "PurgeOne") text) (either Asks.TellSuccessor (behind (codes "TellSuccessor") text) (either Asks.TellPredecessor (behind (codes "TellPredecessor") text) (either Asks.Adopt (behind (codes "Adopt") text) (either Asks.Promote (behind (codes "Promote") text) None)))) m2 ∙ miss Asks.TellSuccessor (behind (codes "TellSuccessor") text) (either Asks.TellPredecessor (behind (codes "TellPredecessor") text) (either Asks.Adopt (behind (codes "Adopt") text) (either Asks.Promote (behind (codes "Promote") text) None))) m3 ∙ miss Asks.TellPredecessor (behind (codes "TellPredecessor") text) (either Asks.Adopt (behind (codes "Adopt") text) (either Asks.Promote (behind (codes "Promote") text) None)) m4 ∙ miss Asks.Adopt (behind (codes "Adopt") text) (either Asks.Promote (behind (codes "Promote") text) None) m5 ∙ hit Asks.Promote (behind (codes "Promote") text) rest None h

pub other_asks_none : (text : List ℕ) → behind (codes "AttachFresh") text ≡ None → behind (codes "AttachDirty") text ≡ None → behind (codes "PurgeOne") text ≡ None → behind (codes "TellSuccessor") text ≡ None → behind (codes "TellPredecessor") text ≡ None → behind (codes "Adopt") text ≡ None → behind (codes "Promote") text ≡ None → other_asks_at text ≡ None
unfolding other_asks_at
other_asks_none text m0 m1 m2 m3 m4 m5 m6 = miss Asks.AttachFresh (behind (codes "AttachFresh") text) (either Asks.AttachDirty (behind (codes "AttachDirty") text) (either Asks.PurgeOne (behind (codes "PurgeOne") text) (either Asks.TellSuccessor (behind (codes "TellSuccessor") text) (either Asks.TellPredecessor (behind (codes "TellPredecessor") text) (either Asks.Adopt (behind (codes "Adopt") text) (either Asks.Promote (behind (codes "Promote") text) None)))))) m0 ∙ miss Asks.AttachDirty (behind (codes "AttachDirty") text) (either Asks.PurgeOne (behind (codes "PurgeOne") text) (either Asks.TellSuccessor (behind (codes "TellSuccessor") text) (either Asks.TellPredecessor (behind (codes "TellPredecessor") text) (either Asks.Adopt (behind (codes "Adopt") text) (either Asks.Promote (behind (codes "Promote") text) None))))) m1 ∙ miss Asks.PurgeOne (behind (codes "PurgeOne") text) (either Asks.TellSuccessor (behind (codes "TellSuccessor") text) (either Asks.TellPredecessor (behind (codes "TellPredecessor") text) (either Asks.Adopt (behind (codes "Adopt") text) (either Asks.Promote (behind (codes "Promote") text) None)))) m2 ∙ miss Asks.TellSuccessor (behind (codes "TellSuccessor") text) (either Asks.TellPredecessor (behind (codes "TellPredecessor") text) (either Asks.Adopt (behind (codes "Adopt") text) (either Asks.Promote (behind (codes "Promote") text) None))) m3 ∙ miss Asks.TellPredecessor (behind (codes "TellPredecessor") text) (either Asks.Adopt (behind (codes "Adopt") text) (either Asks.Promote (behind (codes "Promote") text) None)) m4 ∙ miss Asks.Adopt (behind (codes "Adopt") text) (either Asks.Promote (behind (codes "Promote") text) None) m5 ∙ miss Asks.Promote (behind (codes "Promote") text) None m6
