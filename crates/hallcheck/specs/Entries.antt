-- What the contracts of the program cite. Assumes nothing: these are definitions.
use Rattle.std.specs.Prelude.{List, ℕ, ◌*◌, ◌≤◌, length}
use Rattle.meaning.specs.Changes.{entry_words}
use Rattle.meaning.specs.declared.Answer.{Answer}
use Rattle.meaning.specs.declared.Answer.TheVariants.{End, Refused, Ok, Changed, Loop, NoLoop, Went, Yes, No, Tally}

-- how many entries an answer counts
unfoldable pub entries_of : Answer → ℕ
entries_of End = 0
entries_of (Refused k) = 0
entries_of Ok = 0
entries_of (Changed n) = n
entries_of (Loop a v) = 0
entries_of NoLoop = 0
entries_of (Went f) = 0
entries_of (Yes a) = 0
entries_of No = 0
entries_of (Tally o l r) = 0

-- the entries that an answer counts stand in the change list, five words each
pub record HasEntries (a : Answer) (list : List ℕ) : Type 0 where
  pub entries : entries_of a * entry_words ≤ length list
