-- The numbers of pending steps. This project's profile.
use Rattle.std.specs.Prelude.{◌≡◌, ℕ, ◌==◌, Bool, true, ◌&&◌, cond, Option, Some, None}
use Rattle.sci_words.specs.declared.tags.Tag.{Tag}
use Rattle.sci_words.specs.Codes.{tag_code}
use Rattle.sci_words.specs.Layout.{bit}
use Rattle.sci_words.specs.Tag.{link_below}
use Rattle.sci_core.specs.declared.stages.Stage.{Stage}
use Rattle.sci_c.specs.declared.steps.StepNumbers.{StepNumbers}
use Rattle.sci_c.specs.Links.{fits_tag, link_meant, link_number, no_node, node_meant}

-- a step that keeps no tag and has seen nothing
abbrev pub plain : ℕ → ℕ → ℕ → StepNumbers
plain step flag kept = record { step = step; flag = flag; has = 0; kept = kept; forw = 0; back = 0; word = 0 }

-- a step that keeps a tag
abbrev pub keeping : ℕ → ℕ → Tag → StepNumbers
keeping step kept t = record { step = step; flag = 0; has = 0; kept = kept; forw = 0; back = 0; word = tag_code t }

-- a step that has seen its own links
abbrev pub seeing : ℕ → ℕ → ℕ → ℕ → StepNumbers
seeing step flag forw back = record { step = step; flag = flag; has = 1; kept = 0; forw = forw; back = back; word = 0 }

-- a step that may have seen its own forward link
abbrev pub saw_link : ℕ → ℕ → Option (Option ℕ) → StepNumbers
saw_link step flag None = plain step flag 0
saw_link step flag (Some f) = seeing step flag (link_number f) 0

-- a step that may have seen both its own links
abbrev pub saw_links : ℕ → ℕ → Option (Option ℕ × ℕ) → StepNumbers
saw_links step flag None = plain step flag 0
saw_links step flag (Some seen) = seeing step flag (link_number seen.0) seen.1

-- the numbers of a step: what it doesn't have is 0
abbrev pub step_numbers : Stage → StepNumbers
step_numbers Stage.Idle = plain 0 0 0
step_numbers (Stage.Holding w) = keeping 1 0 w
step_numbers (Stage.Queueing f) = plain 2 0 (link_number f)
step_numbers (Stage.Fetching f d) = plain 3 (bit d) (link_number f)
step_numbers (Stage.InQueue f d c) = record { step = 4; flag = bit d; has = bit c; kept = link_number f; forw = 0; back = 0; word = 0 }
step_numbers (Stage.Copying x w) = keeping 5 x w
step_numbers (Stage.Ready f d) = plain 6 (bit d) (link_number f)
step_numbers (Stage.Converting f turned) = plain 7 (bit turned) (link_number f)
step_numbers (Stage.Purging seen) = saw_link 8 0 seen
step_numbers (Stage.Advancing x w) = keeping 9 x w
step_numbers (Stage.Clearing x w) = keeping 10 x w
step_numbers (Stage.Leaving d seen) = saw_link 11 (bit d) seen
step_numbers (Stage.Promoted d x) = plain 12 (bit d) x
step_numbers Stage.WritingBack = plain 13 0 0
step_numbers (Stage.Parted f) = plain 14 0 (link_number f)
step_numbers (Stage.Rolling told seen) = saw_links 15 (bit told) seen
step_numbers (Stage.Unlinked f b) = record { step = 16; flag = 0; has = 0; kept = link_number f; forw = 0; back = b; word = 0 }

abbrev pub fits_seen : Option (Option ℕ) → Bool
fits_seen None = true
fits_seen (Some f) = link_below no_node f

abbrev pub fits_pair : Option (Option ℕ × ℕ) → Bool
fits_pair None = true
fits_pair (Some seen) = link_below no_node seen.0 && link_below no_node (Some seen.1)

-- a step has numbers: its links name nodes, and its tag has a code
abbrev pub fits_step : Stage → Bool
fits_step Stage.Idle = true
fits_step (Stage.Holding w) = fits_tag w
fits_step (Stage.Queueing f) = link_below no_node f
fits_step (Stage.Fetching f d) = link_below no_node f
fits_step (Stage.InQueue f d c) = link_below no_node f
fits_step (Stage.Copying x w) = link_below no_node (Some x) && fits_tag w
fits_step (Stage.Ready f d) = link_below no_node f
fits_step (Stage.Converting f turned) = link_below no_node f
fits_step (Stage.Purging seen) = fits_seen seen
fits_step (Stage.Advancing x w) = link_below no_node (Some x) && fits_tag w
fits_step (Stage.Clearing x w) = link_below no_node (Some x) && fits_tag w
fits_step (Stage.Leaving d seen) = fits_seen seen
fits_step (Stage.Promoted d x) = link_below no_node (Some x)
fits_step Stage.WritingBack = true
fits_step (Stage.Parted f) = link_below no_node f
fits_step (Stage.Rolling told seen) = fits_pair seen
fits_step (Stage.Unlinked f b) = link_below no_node f && link_below no_node (Some b)

-- these are the numbers of this step
abbrev pub IsStep : StepNumbers → Stage → Type 0
IsStep n s = (step_numbers s ≡ n) × (fits_step s ≡ true)

abbrev pub seen_meant : StepNumbers → Option (Option ℕ)
seen_meant n = cond (n.has == 1) (Some (link_meant n.forw)) None

abbrev pub pair_meant : StepNumbers → Option (Option ℕ × ℕ)
pair_meant n = cond (n.has == 1) (Some (link_meant n.forw, node_meant n.back)) None

-- the only step that can have these numbers, from the tag that it would keep
abbrev pub stage_meant : StepNumbers → Tag → Stage
stage_meant n t =
    cond (n.step == 0) Stage.Idle
    (cond (n.step == 1) (Stage.Holding t)
    (cond (n.step == 2) (Stage.Queueing (link_meant n.kept))
    (cond (n.step == 3) (Stage.Fetching (link_meant n.kept) (n.flag == 1))
    (cond (n.step == 4) (Stage.InQueue (link_meant n.kept) (n.flag == 1) (n.has == 1))
    (cond (n.step == 5) (Stage.Copying (node_meant n.kept) t)
    (cond (n.step == 6) (Stage.Ready (link_meant n.kept) (n.flag == 1))
    (cond (n.step == 7) (Stage.Converting (link_meant n.kept) (n.flag == 1))
    (cond (n.step == 8) (Stage.Purging (seen_meant n))
    (cond (n.step == 9) (Stage.Advancing (node_meant n.kept) t)
    (cond (n.step == 10) (Stage.Clearing (node_meant n.kept) t)
    (cond (n.step == 11) (Stage.Leaving (n.flag == 1) (seen_meant n))
    (cond (n.step == 12) (Stage.Promoted (n.flag == 1) (node_meant n.kept))
    (cond (n.step == 13) Stage.WritingBack
    (cond (n.step == 14) (Stage.Parted (link_meant n.kept))
    (cond (n.step == 15) (Stage.Rolling (n.flag == 1) (pair_meant n))
    (Stage.Unlinked (link_meant n.kept) (node_meant n.back)))))))))))))))))
