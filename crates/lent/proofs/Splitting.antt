-- A boundary made within an atom keeps the box in order: the upper part has the owners and the links of the atom that is split. Assumes nothing.
use mathlib.Core.Path.{◌≡◌, sym, ap, ap₂, ◌∙◌}
use mathlib.Core.Bool.{Bool, true, false, ◌||◌, ◌&&◌, or-false}
use mathlib.Core.List.{List}
use Prim.Native.Nat.{ℕ, ◌+◌, ◌-◌, ◌/◌, ◌≤◌, ◌<◌}
use native.Mathlib.Decide.{ℕ_discrete}
use native.Mathlib.Numerals.{add-one}
use native.Mathlib.Omega.{arith}
use lib.Dec.{eqb}
use lib.ListN.{length, get_or}
use borrow.Author.Tests.{eq-eqb, ne_eqb, eqb-true}
use Rattle.meaning.specs.Search.{any_below}
use Rattle.meaning.specs.Hall.{top, State, source_of}
use Rattle.meaning.specs.Winner.{rule_at, winner}
use Rattle.meaning.specs.Atoms.{place_of, insert_at, split_cut, split_number, split_count, with_cut, is_boundary}
use Rattle.meaning.specs.Labels.{on}
use Rattle.meaning.specs.Working.{owner_word}
use Rattle.meaning.specs.Changes.{no_link}
use Rattle.meaning.proofs.base.Order.{Order, less, same, more, order}
use Rattle.meaning.proofs.base.InsertAt.{insert_below, insert_same, insert_over}
use Rattle.meaning.proofs.atoms.Splits.{within, starts, ends}
use Rattle.meaning.proofs.atoms.Constant.{same_winner}
use Rattle.meaning.proofs.sound.Kept.{keeps_cut}
use Rattle.meaning.proofs.rules.Covers.{cut_alike, winner_same}
use Rattle.meaning.proofs.base.Search.{any_one}
use Rattle.lent.specs.Owners.{owner_in, via, Owned, Agrees, Whole}
use Rattle.lent.proofs.Labelled.{source_small, via_none, starts as owner-starts}

-- an owner at a node other than a link's source does not name the link
module _ (m : State) (label owner : List ℕ) (W : Whole m label owner) (k : ℕ) (hk : k < 512) (l : ℕ) (hl : l < 64) where
  only_source : any_below 16 (λ v. eqb (via (owner_in owner k v)) l) ≡ eqb (via (owner_in owner k (source_of m l))) l
  unfolding source_of
  only_source = any_one (λ v. eqb (via (owner_in owner k v)) l) 16 (source_of m l) (source_small m W.sound l) only
    where
      only : (v : ℕ) → v < 16 → eqb (via (owner_in owner k v)) l ≡ true → v ≡ source_of m l
      only v hv e =
          let d = eqb-true (via (owner_in owner k v)) l e in
          let z : owner_in owner k v ≡ 0 → ⊥ = λ q. omega (arith, ap via q, via_none) in
          sym ((owner-starts m label owner W).here k v hk hv z) ∙ ap (λ (x : ℕ). get_or m.plan.link x 0 / 1024) d

module _ (m : State) (b : ℕ) where
  -- rules and links are the same, so winners and their words are
  word_same : (v a : ℕ) → owner_word (with_cut m b) (winner (with_cut m b) v a) ≡ owner_word m (winner m v a)
  unfolding owner_word rule_at with_cut
  word_same v a = ap (owner_word m) (winner_same (cut_alike m b) v a)

-- b lies within the atom at a place p; the next number's row gets the owners of that atom, and the next atom is put on the links that they name
module _ (m : State) (b : ℕ) (label label' owner owner' : List ℕ) (W : Whole m label owner) (bt : b ≤ top m) (missing : is_boundary m b ≡ false) (room : m.atoms.count < 512)
    (long : length owner' ≡ length owner)
    (row : (v : ℕ) → v < 16 → owner_in owner' m.atoms.count v ≡ owner_in owner (get_or m.atoms.number (place_of m.atoms.cut m.atoms.count b) 0) v)
    (else : (k v : ℕ) → k < 512 → v < 16 → (k ≡ m.atoms.count → ⊥) → owner_in owner' k v ≡ owner_in owner k v)
    (bits : (l k : ℕ) → l < 64 → k < 512 → on label' l k
    ≡ on label l k || (eqb k m.atoms.count && any_below 16 (λ v. eqb (via (owner_in owner (get_or m.atoms.number (place_of m.atoms.cut m.atoms.count b) 0) v)) l))) where
  abbrev n : ℕ
  n = m.atoms.count

  abbrev p : ℕ
  p = place_of m.atoms.cut m.atoms.count b

  abbrev old : ℕ
  old = get_or m.atoms.number (place_of m.atoms.cut m.atoms.count b) 0

  hp : p < n
  hp = within W.sound.cuts bt missing

  atoms_is : (with_cut m b).atoms.count ≡ n + 1
  unfolding with_cut split_count
  atoms_is = rw missing

  cut_is : (with_cut m b).atoms.cut ≡ insert_at (p + 1) b m.atoms.cut
  unfolding with_cut split_cut
  cut_is = rw missing

  number_is : (with_cut m b).atoms.number ≡ insert_at (p + 1) n m.atoms.number
  unfolding with_cut split_number
  number_is = rw missing

  -- the winner at b is that of the whole atom
  inside : (v : ℕ) → winner m v b ≡ winner m v (get_or m.atoms.cut p 0)
  inside =
      same_winner m W.sound.cuts W.sound.aligned p b hp (omega (arith, starts W.sound.cuts bt missing))
      (omega (arith, ends W.sound.cuts bt missing, ap (λ (x : ℕ). get_or m.atoms.cut x 0) (add-one p)))

  -- an atom that there was keeps its owners
  kept : (q v : ℕ) → q < n → v < 16 → owner_in owner' (get_or m.atoms.number q 0) v ≡ owner_word m (winner m v (get_or m.atoms.cut q 0))
  kept q v hq hv =
      else (get_or m.atoms.number q 0) v (omega (arith, W.sound.numbers.small q hq)) hv (λ e. omega (arith, W.sound.numbers.small q hq))
      ∙ W.owned.right q v hq hv

  Right : (q v : ℕ) → Type 0
  Right q v = owner_in owner' (get_or (insert_at (p + 1) n m.atoms.number) q 0) v ≡ owner_word m (winner m v (get_or (insert_at (p + 1) b m.atoms.cut) q 0))

  right_at : (q v x a : ℕ) → get_or (insert_at (p + 1) n m.atoms.number) q 0 ≡ x → get_or (insert_at (p + 1) b m.atoms.cut) q 0 ≡ a
      → owner_in owner' x v ≡ owner_word m (winner m v a) → Right q v
  unfolding Right
  right_at q v x a e d h = rw (e, d) h

  right : (q v : ℕ) → q < n + 1 → v < 16 → Order q (p + 1) → Right q v
  right q v hq hv (less g) =
      right_at q v (get_or m.atoms.number q 0) (get_or m.atoms.cut q 0) (insert_below (p + 1) n q m.atoms.number g) (insert_below (p + 1) b q m.atoms.cut g)
      (kept q v (omega (arith, hp)) hv)
  right q v hq hv (same e) =
      right_at q v n b
      (ap (λ (x : ℕ). get_or (insert_at (p + 1) n m.atoms.number) x 0) e ∙ insert_same (p + 1) n m.atoms.number (omega (arith, hp, W.sound.numbers.long)))
      (ap (λ (x : ℕ). get_or (insert_at (p + 1) b m.atoms.cut) x 0) e ∙ insert_same (p + 1) b m.atoms.cut (omega (arith, hp, W.sound.cuts.long)))
      (row v hv ∙ W.owned.right p v hp hv ∙ ap (owner_word m) (sym (inside v)))
  right q v hq hv (more g) =
      right_at q v (get_or m.atoms.number (q - 1) 0) (get_or m.atoms.cut (q - 1) 0)
      (insert_over (p + 1) n q m.atoms.number g (omega (arith, W.sound.numbers.long))) (insert_over (p + 1) b q m.atoms.cut g (omega (arith, W.sound.cuts.long)))
      (kept (q - 1) v (omega arith) hv)

  owned' : Owned (with_cut m b) owner'
  unfolding Right
  owned' = record {
    long = long ∙ W.owned.long;
    right = λ q v hq hv.
        ap (λ (l : List ℕ). owner_in owner' (get_or l q 0) v) number_is ∙ right q v (omega (arith, atoms_is)) hv (order q (p + 1))
        ∙ ap (λ (l : List ℕ). owner_word m (winner m v (get_or l q 0))) (sym cut_is) ∙ sym (word_same m b v (get_or (with_cut m b).atoms.cut q 0));
    rest = λ k v a hk hv. else k v hk hv (λ e. omega (arith, atoms_is)) ∙ W.owned.rest k v (omega (arith, atoms_is)) hk hv;
  }

  old_small : old < 512
  old_small = omega (arith, W.sound.numbers.small p hp)

  agrees' : Agrees m.plan.link label' owner'
  unfolding source_of
  agrees' = record { bits = λ l k hl hk. go l k hl hk (ℕ_discrete k n) }
    where
      go : (l k : ℕ) → l < 64 → k < 512 → Dec (k ≡ n) → on label' l k ≡ eqb (via (owner_in owner' k (source_of m l))) l
      go l k hl hk (no d) =
          bits l k hl hk ∙ ap (λ (t : Bool). on label l k || (t && any_below 16 (λ v. eqb (via (owner_in owner old v)) l))) (ne_eqb k n d) ∙ or-false (on label l k)
          ∙ W.agrees.bits l k hl hk
          ∙ ap (λ (x : ℕ). eqb (via x) l) (sym (else k (source_of m l) hk (source_small m W.sound l) d))
      go l k hl hk (yes e) =
          let none : on label l k ≡ false = W.agrees.bits l k hl hk
          ∙ ap (λ (x : ℕ). eqb (via x) l) (W.owned.rest k (source_of m l) (omega arith) hk (source_small m W.sound l))
          ∙ ap (λ (x : ℕ). eqb x l) via_none ∙ ne_eqb no_link l (λ q. omega arith) in
          bits l k hl hk ∙ ap₂ (λ (s t : Bool). s || (t && any_below 16 (λ v. eqb (via (owner_in owner old v)) l))) none (eq-eqb k n e)
          ∙ only_source m label owner W old old_small l hl
          ∙ ap (λ (x : ℕ). eqb (via x) l) (sym (row (source_of m l) (source_small m W.sound l)) ∙ ap (λ (x : ℕ). owner_in owner' x (source_of m l)) (sym e))

  -- THE LAW: the box is in order again
  pub split_whole : Whole (with_cut m b) label' owner'
  split_whole = record {
    sound = keeps_cut m W.sound b bt (λ z. room);
    owned = owned';
    agrees = unfold with_cut in agrees';
  }
