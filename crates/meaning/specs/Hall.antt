-- The hall: its state as the lent tables hold it, in parts, over addresses of any width; the fresh state; a link's source and end. The parts are the
-- code's own: the plan (what the set-up records say) and the atoms. A state m has its unused entries 0, so it is determined by what it means. Assumes nothing: these are definitions.
use Rattle.std.specs.Prelude.{List, ◌&&◌, eqb, Result, Ok, Err, ℕ, ◌+◌, ◌*◌, ◌/◌, ◌%◌, ◌^◌, get_or, set, replicate}
pub use Rattle.meaning.specs.declared.hall.Plan.{Plan}
pub use Rattle.meaning.specs.declared.hall.Atoms.{Atoms}
use Rattle.meaning.specs.declared.hall.Phase.{Phase}
use Rattle.meaning.specs.declared.hall.Phase.TheVariants.{Bare, Open, Closed}
use Rattle.meaning.specs.declared.Refusal.{Refusal}
use Rattle.meaning.specs.declared.Refusal.TheVariants.{NoEnd}
use Rattle.meaning.specs.Search.{pick}
use Rattle.meaning.specs.declared.hall.End.{End}
use Rattle.meaning.specs.declared.hall.End.TheVariants.{Node, Port, Drop}

-- THE BOX'S IPv4 ADDRESSES: their width in bits
abbrev pub ipv4 : ℕ
ipv4 = 32

-- how far a hall is set up, as a number: 0 before the hall record, 1 while links come, 2 once closed
abbrev pub stage : Phase → ℕ
stage Bare = 0
stage Open = 1
stage Closed = 2

-- the width of the addresses in bits, the plan, the rules by number, a word each, and the atoms
pub record State : Type 0 where
  pub width : ℕ
  pub plan : Plan
  pub rule : List ℕ
  pub atoms : Atoms

-- the end of the address range: there are so many addresses, and this is the highest upper end
abbrev pub top : State → ℕ
top m = 2 ^ m.width

abbrev pub zeroes : ℕ → List ℕ
zeroes n = replicate n 0

-- no node, no link, no rule; one atom, the whole range, with the number 0
unfoldable pub empty : ℕ → State
empty width = record {
  width = width;
  plan = record { phase = Bare; nodes = 0; links = 0; link = zeroes 64 };
  rule = zeroes 256;
  atoms = record { count = 1; cut = set (zeroes 513) 1 (2 ^ width); number = zeroes 512 };
}

-- the box as it starts: a fresh state over IPv4 addresses
abbrev pub fresh : State
fresh = empty ipv4

-- an end's number: a node by its own, a port p by 256 + p, the drop by 512
unfoldable pub end_number : End → ℕ
end_number (Node v) = v
end_number (Port p) = 256 + p
end_number Drop = 512

-- the end of a code and a number: a node, a port, or the drop, whose number is 0
unfoldable pub end_from : ℕ → ℕ → Result End Refusal
end_from c n = pick (eqb c 0) (Ok (Node n)) (pick (eqb c 1) (Ok (Port n)) (pick (eqb c 2 && eqb n 0) (Ok Drop) (Err NoEnd)))

-- a link's word, by its source and its end's number
unfoldable pub link_word : ℕ → ℕ → ℕ
link_word source end = source * 1024 + end

-- the source of link l
unfoldable pub source_of : State → ℕ → ℕ
source_of m l = get_or m.plan.link l 0 / 1024

-- the number of the end of link l
unfoldable pub end_of : State → ℕ → ℕ
end_of m l = get_or m.plan.link l 0 % 1024
