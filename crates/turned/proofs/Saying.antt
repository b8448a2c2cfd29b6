-- What was found of the job, the tree and its result, as the promise of the call says it.
use Rattle.std.proofs.Common.{◌≡◌, ℕ, Bool, true, List, take, drop, Some, None, Option, sym, ap, ◌∙◌}
use Rattle.std.specs.Option.{ok_or}
use Rattle.std.proofs.lemmas.List.{take_at, drop_at}
use Rattle.model.specs.Trees.{Tree}
use Rattle.model.specs.Types.{TreeType, kind, contains, is_of}
use Rattle.rows.specs.Jobs.{job_in}
use Rattle.rows.specs.Known.{from_of}
use Rattle.transduce.specs.declared.source.Source.{Source}
use Rattle.transduce.specs.Framed.{SourceKnown, result_row}
use Rattle.turned.specs.declared.Unturned.TheVariants.{Full}
use Rattle.turned.specs.Turning.{Taken, DoneSays}
use Rattle.turned.specs.Putting.{PutOut}

-- a tree is of a type exactly if the kind that was read is wanted
pub of_type : (t : TreeType) (x : Tree) (k : ℕ) (b d : Bool) → k ≡ kind t x → b ≡ contains t.wanted k → b ≡ d → is_of t x ≡ d
of_type t x k b d e f g = ap (contains t.wanted) (sym e) ∙ sym f ∙ g

module _ (src : Source) (k : SourceKnown src) (is : is_of (from_of src.job) k.tree.tree ≡ true) where
  taken : Taken src.job.words.now src.tree.now
  taken = record {
    job = job_in src.job.words.now src.job.places k.job.turns;
    tree = k.tree.tree;
    rows = k.job.rows;
    row = k.tree.row;
    comes = record { marked = k.tree.marked; of_type = is };
  }

  -- what was put out is the answer; where nothing was, there is no room for it
  pub said : (o o' : List ℕ) (r : Option ℕ) → PutOut src k o o' r → DoneSays src.job.words.now src.tree.now o o' (ok_or r Full)
  unfolding taken
  said o o' (Some n) (e, l, w) = record {
    taken = taken;
    words = e;
    written = ap (take n) w ∙ take_at (result_row src k) (drop n o) n (sym e);
    rest = ap (drop n) w ∙ drop_at (result_row src k) (drop n o) n (sym e);
  }
  said o o' None h = record { taken = taken; long = h.0; kept = h.1 }
