-- The lines that `hallcheck` prints: one for each record, and one for each entry of a change list.
-- Assumes nothing: these are definitions.
use Rattle.std.specs.Prelude.{List, [], ◌∷◌, ◌++◌, ℕ, eqb}
use Prim.Native.Char.{code}
use Prim.Native.String.{String, [] as nothing, ◌∷◌ as ◌then◌}
use Rattle.meaning.specs.Changes.{no_link}
use Rattle.meaning.specs.Search.{pick}
use Rattle.meaning.specs.Answers.{Word, said}
use Rattle.meaning.specs.Answers.Word.{end, refused, ok, loop, none, out, lost, round, yes, no, tally}
use Rattle.meaning.specs.declared.Answer.{Answer}
use Rattle.print.specs.Text.{decimal}

-- the bytes of a text
abbrev pub bytes : String → List ℕ
bytes nothing = []
bytes (c then s) = code c ∷ bytes s

-- the word of an answer
unfoldable pub word : Word → List ℕ
word end = bytes "end"
word refused = bytes "refused"
word ok = bytes "ok"
word loop = bytes "loop"
word none = bytes "none"
word out = bytes "out"
word lost = bytes "lost"
word round = bytes "round"
word yes = bytes "yes"
word no = bytes "no"
word tally = bytes "tally"

-- the numbers after it, each behind a space, and the line's end: 32 is the space, 10 the line feed
unfoldable pub values : List ℕ → List ℕ
values [] = 10 ∷ []
values (n ∷ ns) = 32 ∷ (decimal n ++ values ns)

-- A RECORD'S LINE: its place among the records, the word and the numbers of its answer
unfoldable pub line : ℕ → Answer → List ℕ
line place a = decimal place ++ (32 ∷ (word (said a).word ++ values (said a).values))

-- A REFUSAL'S LINE by any number
unfoldable pub refusal_line : ℕ → ℕ → List ℕ
refusal_line place n = decimal place ++ (32 ∷ (word refused ++ values (n ∷ [])))

-- a link, or - where there is none
unfoldable pub link_text : ℕ → List ℕ
link_text l = pick (eqb l no_link) (bytes "-") (decimal l)

-- AN ENTRY'S LINE: atom, lower end, upper end, old link, new link
unfoldable pub change : ℕ → ℕ → ℕ → ℕ → ℕ → List ℕ
change atom lower upper old new =
    bytes "= " ++ (decimal atom
    ++ (32 ∷ (decimal lower ++ (32 ∷ (decimal upper ++ (32 ∷ (link_text old ++ (32 ∷ (link_text new ++ (10 ∷ []))))))))))
