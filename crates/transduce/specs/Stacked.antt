-- A stack of frames in lent words.
use Rattle.std.specs.Prelude.{◌≡◌, ℕ, ◌+◌, ◌-◌, ◌*◌, ◌<◌, List, length, Some, None, Option, ◌≢◌}
use Rattle.rows.specs.Numbered.{number}
use Rattle.transduce.specs.declared.frames.Frame.{Frame}
use Rattle.transduce.specs.declared.frames.Frames.{Frames}

-- the frame with number d, in six words
abbrev pub frame_at : List ℕ → ℕ → Frame
frame_at xs d = record { node = number xs (3 * d); at = number xs (3 * d + 1); count = number xs (3 * d + 2) }

-- frame d is now f, and the others are as they were
pub record Saved (old new : List ℕ) (d : ℕ) (f : Frame) : Type 0 where
  pub here : frame_at new d ≡ f
  pub others : (k : ℕ) → (k ≢ d) → frame_at new k ≡ frame_at old k

-- f is on top of what there was
pub record Pushed (old new : Frames) (f : Frame) : Type 0 where
  pub depth : new.depth ≡ old.depth + 1
  pub saved : Saved old.words.now new.words.now old.depth f
  pub long : length new.words.now ≡ length old.words.now

-- the frame on top is taken off, if there is one
abbrev pub Popped : Frames → Frames → Option Frame → Type 0
Popped old new None = (old.depth ≡ 0) × (new.depth ≡ 0) × (new.words.now ≡ old.words.now)
Popped old new (Some f) = (0 < old.depth) × (new.depth ≡ old.depth - 1) × (new.words.now ≡ old.words.now) × (f ≡ frame_at old.words.now new.depth)
