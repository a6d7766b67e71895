-- Laws of sets of atoms carried along links, word by word and row by row. Assumes nothing.
use mathlib.Core.Path.{◌≡◌, refl, sym, ap, ap₂, ◌∙◌}
use mathlib.Core.Logic.{◌⊎◌, inl, inr, ⊎_elim}
use mathlib.Core.Bool.{Bool, true, false, ◌||◌, ◌&&◌, not, true≢false, or-false, or-true, or_assoc, and-true, and-false}
use mathlib.Core.List.{List}
use Prim.Native.Nat.{ℕ, zero, suc, ◌+◌, ◌-◌, ◌*◌, ◌/◌, ◌%◌, ◌^◌, ◌≤◌, ◌<◌}
use native.Mathlib.Decide.{ℕ_discrete}
use native.Mathlib.Nat.{mod-lt, zero-lt-suc}
use native.Mathlib.Omega.{arith}
use lib.Bits.{bit_or, bit_and, bit_xor, and_le_l}
use lib.Count.{count_trailing_zeros}
use lib.Dec.{eqb, ltb}
use lib.ListN.{length, get_or, set, take, replicate, length-set, length-replicate, get_or-replicate}
use borrow.Rule.Slice.PartMut.{put_mid, mid_of}
use Rattle.std.proofs.Common.{rules, w64}
use Rattle.std.proofs.lemmas.List.{places, length-take, get_or-take}
use lib.Seq.{get_or-set_same, get_or-set_other}
use borrow.Author.Tests.{eq-eqb, ne_eqb, eqb-true, not-false, lt-ltb, le-ltb}
use Rattle.meaning.specs.Search.{any_below}
use Rattle.meaning.specs.declared.hall.Hall.{Hall}
use Rattle.meaning.specs.Hall.{zeroes}
use Rattle.meaning.specs.Tables.{Laid}
use Rattle.meaning.specs.Labels.{bit, on}
use Rattle.meaning.specs.Walk.{at, move, after, fate_in}
use Rattle.meaning.specs.Questions.{is_out, is_lost}
use Rattle.meaning.proofs.base.Order.{eqb_comm}
use Rattle.lent.specs.Owners.{next_in, end_in}
use Rattle.meaning.proofs.walk.Walks.{after_suc, going_down}
use Rattle.meaning.proofs.base.Search.{any_off, any_more, and_both, or_either, or_neither}
use Rattle.lent.specs.Nodes.{among}
use Rattle.lent.proofs.Walking.{in_none, step_to}
use Rattle.lent.specs.Sets.{out_row, lost_row, rows, table_words, source_in, Carries, Reached, Within, leaves_by, goes_on, lost_at}
use Rattle.lent.proofs.Sets.{moved_by, moves_on, out_is, lost_is}
use Rattle.lent.proofs.LabelWords.{trailing_at}
use Rattle.std.proofs.lemmas.Nat.Bits.{bit_at-trailing_zeros}
use Rattle.meaning.proofs.base.Bits.{zero_bits, set_bit, clear_bit, shifted, or_bits, and_bits, without_bits, ones_bits, or_none, xor_none}
use Rattle.questions.specs.Standing.{Filled, JoinedRow, TakenAway, Kept, CarriedOn, Leaving, SettledBut, Along, Round, Spread, Outward, Stayed, Gathered, Divided}

-- the first links, in a loop that goes over them
pub among_first : (link : List ℕ) (links l : ℕ) → l < length (take links link) → (l < links) × (get_or (take links link) l 0 ≡ get_or link l 0)
among_first link links l h =
    let few : l < links = omega (arith, length-take links link) in
    (few, get_or-take links link l 0 few)

-- ---- a row written word by word

-- the first j words of row r are f 0, f 1 and so on, and the others are as before
pub record Writing (before after : List ℕ) (r j : ℕ) (f : ℕ → ℕ) : Type 0 where
  pub size : length after ≡ table_words
  pub done : (i : ℕ) → i < j → get_or after (8 * r + i) 0 ≡ f i
  pub rest : (x : ℕ) → ((8 * r ≤ x) × (x < 8 * r + j) → ⊥) → get_or after x 0 ≡ get_or before x 0

pub writing_more : {b a : List ℕ} {r j : ℕ} {f : ℕ → ℕ} → Writing b a r j f → r < rows → j < 8 → (y : ℕ) → y ≡ f j → Writing b (set a (8 * r + j) y) r (j + 1) f
writing_more {b} {a} {r} {j} {f} W hr hj y e = record {
  size = length-set a (8 * r + j) y ∙ W.size;
  done = λ i h. done i h (ℕ_discrete i j);
  rest = λ x h. get_or-set_other a (8 * r + j) x y 0 (λ q. h (omega arith, omega arith)) ∙ W.rest x (λ z. h (z.0, omega (arith, z.1)));
}
  where
    done : (i : ℕ) → i < j + 1 → Dec (i ≡ j) → get_or (set a (8 * r + j) y) (8 * r + i) 0 ≡ f i
    done i h (yes q) = rw q (get_or-set_same a (8 * r + j) y 0 (omega (arith, W.size)) ∙ e)
    done i h (no q) = get_or-set_other a (8 * r + j) (8 * r + i) y 0 (λ d. q (omega arith)) ∙ W.done i (omega arith)

-- a word that is not yet written
unwritten : {b a : List ℕ} {r j : ℕ} {f : ℕ → ℕ} → Writing b a r j f → (s : ℕ) → j < 8 → get_or a (8 * s + j) 0 ≡ get_or b (8 * s + j) 0
unwritten W s hj = W.rest _ (λ z. omega (arith, z.0, z.1))

module _ {b a : List ℕ} {r j : ℕ} {f : ℕ → ℕ} (W : Writing b a r j f) (all : 8 ≤ j) (u k : ℕ) (hk : k < 512) where
  written : u ≡ r → on a u k ≡ eqb (bit (f (k / 64)) (k % 64)) 1
  written e = rw e (ap (λ (x : ℕ). eqb (bit x (k % 64)) 1) (W.done (k / 64) (omega arith)))

  other_row : (u ≡ r → ⊥) → j ≤ 8 → on a u k ≡ on b u k
  other_row n h = ap (λ (x : ℕ). eqb (bit x (k % 64)) 1) (W.rest (8 * u + k / 64) (λ z. n (omega (arith, z.0, z.1))))

-- ---- a row filled

-- an empty table
none_on : (u k : ℕ) → u < rows → k < 512 → on (zeroes table_words) u k ≡ false
none_on u k hu hk = ap (λ (x : ℕ). eqb (bit x (k % 64)) 1) (get_or-replicate {A = ℕ} table_words (8 * u + k / 64) 0 0 (omega arith)) ∙ zero_bits (k % 64)

abbrev ones : ℕ → ℕ
ones i = 18446744073709551615

-- eight words are written as one part
part_written : (b ys : List ℕ) (r : ℕ) (f : ℕ → ℕ) → length b ≡ table_words → r < rows → length ys ≡ 8 → ((i : ℕ) → i < 8 → get_or ys i 0 ≡ f i)
    → Writing b (put_mid (8 * r) (8 * r + 8 - 8 * r) b ys) r 8 f
part_written b ys r f size hr l e = record {
  size = search (rules, places);
  done = λ i h. grind (arith, places, e i h);
  rest = λ x h. grind (arith, places);
}

pub filled : {b ys : List ℕ} {v : ℕ} → b ≡ zeroes table_words → v < 16 → ys ≡ replicate (length (mid_of (8 * v) (8 * v + 8 - 8 * v) b)) 18446744073709551615
    → Filled v (put_mid (8 * v) (8 * v + 8 - 8 * v) b ys)
filled {b} {ys} {v} z hv e = record { size = W.size; member = λ u k hu hk. go u k hu hk (ℕ_discrete u v) }
  where
    W : Writing b (put_mid (8 * v) (8 * v + 8 - 8 * v) b ys) v 8 ones
    W =
        let size : length b ≡ table_words = ap length z ∙ length-replicate {A = ℕ} table_words 0 in
        let l : length (mid_of (8 * v) (8 * v + 8 - 8 * v) b) ≡ 8 = grind (arith, places) in
        part_written b ys v ones size (omega arith) (ap length e ∙ length-replicate {A = ℕ} _ 18446744073709551615 ∙ l)
        (λ i h. ap (λ (x : List ℕ). get_or x i 0) e ∙ get_or-replicate {A = ℕ} _ i 18446744073709551615 0 (omega arith))

    go : (u k : ℕ) → u < rows → k < 512 → Dec (u ≡ v) → on (put_mid (8 * v) (8 * v + 8 - 8 * v) b ys) u k ≡ eqb u v
    go u k hu hk (yes q) = written W (omega arith) u k hk q ∙ ones_bits 64 (k % 64) (mod-lt k (zero-lt-suc 63)) ∙ sym (eq-eqb u v q)
    go u k hu hk (no n) = other_row W (omega arith) u k hk n (omega arith) ∙ ap (λ (x : List ℕ). on x u k) z ∙ none_on u k hu hk ∙ sym (ne_eqb u v n)

-- ---- a row joined by the atoms of another in a set

-- an atom of a set, by the word that has it
in_set : (those : List ℕ) (k : ℕ) → on those 0 k ≡ eqb (bit (get_or those (k / 64) 0) (k % 64)) 1
in_set those k = let e : 8 * 0 + k / 64 ≡ k / 64 = omega arith in ap (λ (x : ℕ). eqb (bit (get_or those x 0) (k % 64)) 1) e

abbrev pub joined_word : List ℕ → List ℕ → ℕ → ℕ → ℕ → ℕ
joined_word those b s r i = bit_or (get_or b (8 * r + i) 0) (bit_and (get_or b (8 * s + i) 0) (get_or those i 0))

-- the first j words of row r are joined, and nothing is new where `more` is 0
pub record Joining (those : List ℕ) (s r : ℕ) (before after : List ℕ) (j more : ℕ) : Type 0 where
  pub words : Writing before after r j (joined_word those before s r)
  pub still : more ≡ 0 → (x : ℕ) → get_or after x 0 ≡ get_or before x 0

pub joining_more : {those b a : List ℕ} {s r j more : ℕ} → Joining those s r b a j more → r < rows → j < 8 → (y : ℕ) → y ≡ joined_word those a s r j
    → Joining those s r b (set a (8 * r + j) y) (j + 1) (bit_or more (bit_xor y (get_or a (8 * r + j) 0)))
joining_more {those} {b} {a} {s} {r} {j} {more} J hr hj y e = record {
  words = writing_more J.words hr hj y (e ∙ ap₂ (λ (x z : ℕ). bit_or x (bit_and z (get_or those j 0))) (unwritten J.words r hj) (unwritten J.words s hj));
  still = λ z x. go x (or_none more (bit_xor y (get_or a p 0)) z) (ℕ_discrete x p);
}
  where
    p : ℕ
    p = 8 * r + j

    go : (x : ℕ) → (more ≡ 0) × (bit_xor y (get_or a p 0) ≡ 0) → Dec (x ≡ p) → get_or (set a p y) x 0 ≡ get_or b x 0
    go x z (yes q) = rw q (get_or-set_same a p y 0 (omega (arith, J.words.size)) ∙ xor_none y (get_or a p 0) z.1 ∙ J.still z.0 p)
    go x z (no n) = get_or-set_other a p x y 0 n ∙ J.still z.0 x

pub joined_row : {those b a : List ℕ} {s r j more : ℕ} {grew : Bool} → Joining those s r b a j more → j ≡ 8 → (grew ≡ false → more ≡ 0) → JoinedRow (on those 0) s r b a grew
joined_row {those} {b} {a} {s} {r} {j} J e none = record {
  size = W.size;
  member = λ u k hu hk. go u k hk (ℕ_discrete u r);
  still = λ z u k hu hk. ap (λ (x : ℕ). eqb (bit x (k % 64)) 1) (J.still (none z) (8 * u + k / 64));
}
  where
    W : Writing b a r j (joined_word those b s r)
    W = J.words

    go : (u k : ℕ) → k < 512 → Dec (u ≡ r) → on a u k ≡ on b u k || (eqb u r && (on b s k && on those 0 k))
    go u k hk (yes q) =
        written W (omega arith) u k hk q
        ∙ or_bits (get_or b (8 * r + k / 64) 0) (bit_and (get_or b (8 * s + k / 64) 0) (get_or those (k / 64) 0)) (k % 64)
        ∙ ap₂ ◌||◌ (ap (λ (x : ℕ). on b x k) (sym q))
        (and_bits (get_or b (8 * s + k / 64) 0) (get_or those (k / 64) 0) (k % 64) ∙ ap (λ (t : Bool). on b s k && t) (sym (in_set those k)))
        ∙ ap (λ (t : Bool). on b u k || (t && (on b s k && on those 0 k))) (sym (eq-eqb u r q))
    go u k hk (no n) =
        other_row W (omega arith) u k hk n (omega arith) ∙ sym (or-false (on b u k))
        ∙ ap (λ (t : Bool). on b u k || (t && (on b s k && on those 0 k))) (sym (ne_eqb u r n))

-- two sets with the same atoms are joined alike
pub joined_alike : {has same : ℕ → Bool} {s r : ℕ} {b a : List ℕ} {grew : Bool} → ((k : ℕ) → k < 512 → has k ≡ same k) → JoinedRow has s r b a grew → JoinedRow same s r b a grew
joined_alike {has} {same} {s} {r} {b} {a} e J = record {
  size = J.size;
  member = λ u k hu hk. J.member u k hu hk ∙ ap (λ (t : Bool). on b u k || (eqb u r && (on b s k && t))) (e k hk);
  still = J.still;
}

-- ---- the atoms of a set taken out of a row

abbrev pub left_word : List ℕ → List ℕ → ℕ → ℕ → ℕ
left_word those b s i = bit_and (get_or b (8 * s + i) 0) (2 ^ 64 - 1 - get_or those i 0)

pub taken_away : (those : List ℕ) {b a : List ℕ} {s j : ℕ} → ((i : ℕ) → get_or those i 0 < 2 ^ 64) → Writing b a s j (left_word those b s) → j ≡ 8 → TakenAway (on those 0) s b a
taken_away those {b} {a} {s} {j} fits W e = record { size = W.size; member = λ u k hu hk. go u k hk (ℕ_discrete u s) }
  where
    go : (u k : ℕ) → k < 512 → Dec (u ≡ s) → on a u k ≡ on b u k && not (eqb u s && on those 0 k)
    go u k hk (yes q) =
        written W (omega arith) u k hk q
        ∙ without_bits (get_or b (8 * s + k / 64) 0) (get_or those (k / 64) 0) (k % 64) (fits (k / 64)) (mod-lt k (zero-lt-suc 63))
        ∙ ap (λ (t : Bool). on b s k && not t) (sym (in_set those k))
        ∙ ap₂ (λ (x : ℕ) (t : Bool). on b x k && not (t && on those 0 k)) (sym q) (sym (eq-eqb u s q))
    go u k hk (no n) =
        other_row W (omega arith) u k hk n (omega arith) ∙ sym (and-true (on b u k))
        ∙ ap (λ (t : Bool). on b u k && not (t && on those 0 k)) (sym (ne_eqb u s n))

pub taken_alike : {has same : ℕ → Bool} {s : ℕ} {b a : List ℕ} → ((k : ℕ) → k < 512 → has k ≡ same k) → TakenAway has s b a → TakenAway same s b a
taken_alike {has} {same} {s} {b} {a} e T = record { size = T.size; member = λ u k hu hk. T.member u k hu hk ∙ ap (λ (t : Bool). on b u k && not (eqb u s && t)) (e k hk) }

-- ---- the nodes' rows gathered in one

-- the set of all atoms has each
pub all_in : (k : ℕ) → k < 512 → on (replicate 8 18446744073709551615) 0 k ≡ true
all_in k h = in_set (replicate 8 18446744073709551615) k ∙ ap (λ (x : ℕ). eqb (bit x (k % 64)) 1) (get_or-replicate {A = ℕ} 8 (k / 64) 18446744073709551615 0 (omega arith)) ∙ ones_bits 64 (k % 64) (mod-lt k (zero-lt-suc 63))

pub gathered_none : (b : List ℕ) → length b ≡ table_words → Gathered 0 b b
unfolding any_below
gathered_none b size = record { size = size; lost = λ k hk. sym (or-false (on b lost_row k)); else = λ u k hu hk. refl }

pub gathered_more : {n : ℕ} {b a a' : List ℕ} {grew : Bool} → Gathered n b a → n < 16 → JoinedRow (λ k. true) n lost_row a a' grew
    → Gathered (n + 1) b a'
gathered_more {n} {b} {a} {a'} G h J = record {
  size = J.size;
  lost = λ k hk.
      J.member lost_row k (omega arith) hk
      ∙ ap₂ (λ (x t : Bool). x || t) (G.lost k hk) (and-true (on a n k) ∙ G.else n k (omega arith) hk)
      ∙ or_assoc (on b lost_row k) (any_below n (λ u. on b u k)) (on b n k)
      ∙ ap (λ (x : Bool). on b lost_row k || x) (sym (any_more (λ u. on b u k) n));
  else = λ u k hu hk.
      J.member u k (omega arith) hk ∙ ap (λ (t : Bool). on a u k || (t && (on a n k && true))) (ne_eqb u lost_row (λ q. omega arith)) ∙ or-false (on a u k) ∙ G.else u k hu hk;
}

-- ---- the links that leave each node

module _ {link a : List ℕ} {l : ℕ} (L : Leaving link l a) where
  pub leaving_not : 16 ≤ end_in link l → Leaving link (l + 1) a
  leaving_not far = record {
    size = L.size;
    all = λ m hm h. before m hm h (ℕ_discrete m l);
    only = λ u m hu hm e. omega (arith, L.only u m hu hm e);
  }
    where
      before : (m : ℕ) → m < l + 1 → end_in link m < 16 → Dec (m ≡ l) → among (get_or a (source_in link m) 0) m ≡ true
      before m hm h (yes q) = absurd (omega (arith, ap (end_in link) q))
      before m hm h (no n) = L.all m (omega arith) h

  pub leaving_by : {s : ℕ} → l < 64 → s ≡ source_in link l → s < 16 → Leaving link (l + 1) (set a s (bit_or (get_or a s 0) (1 * 2 ^ l % 2 ^ 64)))
  leaving_by {s} hl from hs = rw (shifted 64 l hl) (record {
    size = length-set a s y ∙ L.size;
    all = λ m hm h. all m hm h (ℕ_discrete m l) (ℕ_discrete (source_in link m) s);
    only = λ u m hu hm e. only u m hu hm e (ℕ_discrete u s);
  })
    where
      y : ℕ
      y = bit_or (get_or a s 0) (2 ^ l)

      here : get_or (set a s y) s 0 ≡ y
      here = get_or-set_same a s y 0 (omega (arith, L.size))

      all : (m : ℕ) → m < l + 1 → end_in link m < 16 → Dec (m ≡ l) → Dec (source_in link m ≡ s) → among (get_or (set a s y) (source_in link m) 0) m ≡ true
      all m hm h (yes q) (yes e) = rw (e, here) (set_bit (get_or a s 0) l m ∙ ap (λ (t : Bool). among (get_or a s 0) m || t) (eq-eqb l m (sym q)) ∙ or-true (among (get_or a s 0) m))
      all m hm h (yes q) (no n) = absurd (n (ap (source_in link) q ∙ sym from))
      all m hm h (no n) (yes e) = rw (e, here) (set_bit (get_or a s 0) l m ∙ ap (λ (t : Bool). t || eqb l m) (ap (λ (x : ℕ). among (get_or a x 0) m) (sym e) ∙ L.all m (omega arith) h))
      all m hm h (no n) (no d) = ap (λ (x : ℕ). among x m) (get_or-set_other a s (source_in link m) y 0 d) ∙ L.all m (omega arith) h

      only : (u m : ℕ) → u < 16 → m < 64 → among (get_or (set a s y) u 0) m ≡ true → Dec (u ≡ s) → m < l + 1
      only u m hu hm e (no d) = omega (arith, L.only u m hu hm (ap (λ (x : ℕ). among x m) (sym (get_or-set_other a s u y 0 d)) ∙ e))
      only u m hu hm e (yes q) =
          ⊎_elim (λ f. omega (arith, L.only s m hs hm f)) (λ f. omega (arith, eqb-true l m f))
          (or_either (among (get_or a s 0) m) (eqb l m) (sym (set_bit (get_or a s 0) l m) ∙ ap (λ (x : ℕ). among x m) (sym (ap (λ (x : ℕ). get_or (set a s y) x 0) q ∙ here)) ∙ e))

-- ---- one link carries its atoms on

-- it does not, for it leads to no node
pub along_none : (hall : Hall) (l : ℕ) (b : List ℕ) → length b ≡ table_words → (end_in hall.plan.link l < 16 → ⊥) → Along hall l b b 0
along_none hall l b size away = record {
  size = size;
  kept = λ u k hu hk e. e;
  only = λ u k hu hk e. inl e;
  took = λ k hk h e f. absurd (away h);
  still = λ m k hm hk h e. refl;
  declared = λ m hm e. absurd (in_none m e);
}

module _ {hall : Hall} {l s r : ℕ} {b a : List ℕ} {grew : Bool} (D : Laid hall.plan) (J : JoinedRow (on hall.label l) s r b a grew)
    (from : s ≡ source_in hall.plan.link l) (to : r ≡ end_in hall.plan.link l) (hr : r < 16) where
  along : (more : ℕ) → ((m k : ℕ) → m < hall.plan.links → k < 512 → end_in hall.plan.link m < 16 → among more m ≡ false → on a (source_in hall.plan.link m) k ≡ on b (source_in hall.plan.link m) k)
      → ((m : ℕ) → m < 64 → among more m ≡ true → m < hall.plan.links) → Along hall l b a more
  along more still declared = record {
    size = J.size;
    kept = λ u k hu hk e. J.member u k hu hk ∙ ap (λ (t : Bool). t || (eqb u r && (on b s k && on hall.label l k))) e;
    only = λ u k hu hk e. ⊎_elim inl (λ f. inr (new_one u k f)) (or_either _ _ (sym (J.member u k hu hk) ∙ e));
    took = λ k hk h e f.
        let m = J.member r k (omega arith) hk in
        let t : (eqb r r && (on b s k && on hall.label l k)) ≡ true = ap₂ ◌&&◌ (eq-eqb r r refl) (ap₂ ◌&&◌ (ap (λ (x : ℕ). on b x k) from ∙ e) f) in
        ap (λ (x : ℕ). on a x k) (sym to) ∙ m ∙ ap (λ (x : Bool). on b r k || x) t ∙ or-true (on b r k);
    still = still;
    declared = declared;
  }
    where
      new_one : (u k : ℕ) → (eqb u r && (on b s k && on hall.label l k)) ≡ true → (u ≡ end_in hall.plan.link l) × (u < 16) × (on b (source_in hall.plan.link l) k ≡ true) × (on hall.label l k ≡ true)
      new_one u k f =
          let p = and_both _ _ f in
          let q = and_both _ _ p.1 in
          let e : u ≡ r = eqb-true u r p.0 in
          (e ∙ to, rw e hr, ap (λ (x : ℕ). on b x k) (sym from) ∙ q.0, q.1)

  -- it does, and nothing is new
  pub along_still : grew ≡ false → Along hall l b a 0
  along_still z = along 0 (λ m k hm hk h e. J.still z (source_in hall.plan.link m) k (omega (arith, D.sources m hm, D.small)) hk) (λ m hm e. absurd (in_none m e))

  -- it does, and the links that leave its end are to carry on what is new
  pub along_new : (leaving : List ℕ) → Leaving hall.plan.link hall.plan.links leaving → Along hall l b a (get_or leaving r 0)
  along_new leaving L = along (get_or leaving r 0) (λ m k hm hk h e. unmoved m k hm hk h e (ℕ_discrete (source_in hall.plan.link m) r)) (λ m hm e. L.only r m hr hm e)
    where
      unmoved : (m k : ℕ) → m < hall.plan.links → k < 512 → end_in hall.plan.link m < 16 → among (get_or leaving r 0) m ≡ false → Dec (source_in hall.plan.link m ≡ r) → on a (source_in hall.plan.link m) k ≡ on b (source_in hall.plan.link m) k
      unmoved m k hm hk h e (yes q) = absurd (true≢false (sym (L.all m hm h) ∙ ap (λ (x : ℕ). among (get_or leaving x 0) m) q ∙ e))
      unmoved m k hm hk h e (no n) =
          J.member (source_in hall.plan.link m) k (omega (arith, D.sources m hm, D.small)) hk
          ∙ ap (λ (t : Bool). on b (source_in hall.plan.link m) k || (t && (on b s k && on hall.label l k))) (ne_eqb (source_in hall.plan.link m) r n) ∙ or-false (on b (source_in hall.plan.link m) k)

-- ---- a round

-- a round where the links of `left` are still to be taken
pub record Spreading (hall : Hall) (before after : List ℕ) (left next : ℕ) : Type 0 where
  pub size : length after ≡ table_words
  pub kept : Kept before after
  pub reached : (owner : List ℕ) (nodes v : ℕ) → Carries hall.plan.link hall.label owner hall.plan.links nodes → Reached hall.plan.link owner v before → Reached hall.plan.link owner v after
  pub took : (l k : ℕ) → l < hall.plan.links → k < 512 → end_in hall.plan.link l < 16 → among left l ≡ false → on before (source_in hall.plan.link l) k ≡ true → on hall.label l k ≡ true → on after (end_in hall.plan.link l) k ≡ true
  pub settled : (l k : ℕ) → l < hall.plan.links → k < 512 → end_in hall.plan.link l < 16 → among left l ≡ false → among next l ≡ false → on after (source_in hall.plan.link l) k ≡ true → on hall.label l k ≡ true
      → on after (end_in hall.plan.link l) k ≡ true
  pub declared : (l : ℕ) → l < 64 → among left l ≡ true → l < hall.plan.links
  pub declared_next : (l : ℕ) → l < 64 → among next l ≡ true → l < hall.plan.links

-- before a round's first link
pub going_start : (hall : Hall) (b : List ℕ) (from : ℕ) → length b ≡ table_words → SettledBut hall from b → Spreading hall b b from 0
going_start hall b from size S = record {
  size = size;
  kept = λ u k hu hk e. e;
  reached = λ owner nodes v C R. R;
  took = λ l k hl hk h g e f. S.on_all l k hl hk h g e f;
  settled = λ l k hl hk h g n e f. S.on_all l k hl hk h g e f;
  declared = S.declared;
  declared_next = λ l hl e. absurd (in_none l e);
}

-- an atom moves along a link as its walk does
reached_along : {hall : Hall} {owner : List ℕ} {nodes v l more : ℕ} {b a : List ℕ} → Carries hall.plan.link hall.label owner hall.plan.links nodes → l < hall.plan.links → Along hall l b a more
    → Reached hall.plan.link owner v b → Reached hall.plan.link owner v a
reached_along {hall} {owner} {nodes} {v} {l} {more} {b} {a} C hl A R = record {
  comes = λ w k hw hk e. ⊎_elim (R.comes w k hw hk) (λ z. moved w k hk z) (A.only w k hw hk e);
}
  where
    moved : (w k : ℕ) → k < 512 → (w ≡ end_in hall.plan.link l) × (w < 16) × (on b (source_in hall.plan.link l) k ≡ true) × (on hall.label l k ≡ true)
        → (w < 16) × ((j : ℕ) × (after (next_in owner k) (end_in hall.plan.link) j (at v) ≡ at w))
    moved w k hk (q, h, e, f) =
        let r = R.comes (source_in hall.plan.link l) k (omega (arith, C.source l hl)) hk e in
        let m = moves_on C k hk l hl f (omega (arith, q)) in
        (h, (r.1.0 + 1, step_to (next_in owner k) (end_in hall.plan.link) v r.1.0 (source_in hall.plan.link l) r.1.1 w (m ∙ ap at (sym q))))

-- a set of links without one of them
abbrev without : ℕ → ℕ → ℕ
without left l = bit_and left (2 ^ 64 - 1 - 1 * 2 ^ l % 2 ^ 64)

among_without : (left l m : ℕ) → l < 64 → m < 64 → among (without left l) m ≡ among left m && not (eqb l m)
among_without left l m hl hm = rw (shifted 64 l hl) (clear_bit left l m hl hm)

-- a set that is not empty has its lowest link, and without it the set is a smaller number
pub lowest_in : (left : ℕ) → left < 2 ^ 64 → (left ≡ 0 → ⊥) → (count_trailing_zeros 64 left < 64) × (among left (count_trailing_zeros 64 left) ≡ true)
lowest_in left h n =
    let l : count_trailing_zeros 64 left < 64 = (bit_at-trailing_zeros w64 left (omega arith) h).0 in
    (l, ap (λ (d : ℕ). eqb d 1) (trailing_at 64 left l))

pub without_less : (left l : ℕ) → l < 64 → among left l ≡ true → bit_and left (2 ^ 64 - 1 - 1 * 2 ^ l % 2 ^ 64) < left
without_less left l hl e = less (without left l) (and_le_l left (2 ^ 64 - 1 - 1 * 2 ^ l % 2 ^ 64)) (λ q.
    true≢false (sym (ap (λ (x : ℕ). among x l) q ∙ e) ∙ among_without left l l hl hl ∙ ap₂ (λ (x y : Bool). x && not y) e (eq-eqb l l refl)))
  where
    less : (x : ℕ) → x ≤ left → (x ≡ left → ⊥) → x < left
    less x h n = omega arith

-- it is not in the smaller set: it was not in the larger one, or is the link taken out
not_in : (x : Bool) (l m : ℕ) → (x && not (eqb l m)) ≡ false → (x ≡ false) ⊎ (l ≡ m)
not_in false l m e = inl refl
not_in true l m e = inr (eqb-true l m (not-false _ e))

module _ {hall : Hall} {b a : List ℕ} {left next : ℕ} (D : Laid hall.plan) (G : Spreading hall b a left next) where
  pub going_more : {a' : List ℕ} {l more : ℕ} → l < 64 → among left l ≡ true → Along hall l a a' more
      → Spreading hall b a' (bit_and left (2 ^ 64 - 1 - 1 * 2 ^ l % 2 ^ 64)) (bit_or next more)
  going_more {a'} {l} {more} hl g A = record {
    size = A.size;
    kept = λ u k hu hk e. A.kept u k hu hk (G.kept u k hu hk e);
    reached = λ owner nodes v C r. reached_along C (G.declared l hl g) A (G.reached owner nodes v C r);
    took = λ m k hm hk h n e f. took m k hm hk h e f (out m hm n);
    settled = λ m k hm hk h n x e f.
        let z = or_neither _ _ (sym (or_bits next more m) ∙ x) in
        settled m k hm hk h z.0 (sym (A.still m k hm hk h z.1) ∙ e) f (out m hm n);
    declared = λ m hm e. G.declared m hm (and_both _ _ (sym (among_without left l m hl hm) ∙ e)).0;
    declared_next = λ m hm e. ⊎_elim (G.declared_next m hm) (A.declared m hm) (or_either _ _ (sym (or_bits next more m) ∙ e));
  }
    where
      out : (m : ℕ) → m < hall.plan.links → among (without left l) m ≡ false → (among left m ≡ false) ⊎ (l ≡ m)
      out m hm n = not_in (among left m) l m (sym (among_without left l m hl (omega (arith, D.few))) ∙ n)

      took : (m k : ℕ) → m < hall.plan.links → k < 512 → end_in hall.plan.link m < 16 → on b (source_in hall.plan.link m) k ≡ true → on hall.label m k ≡ true → (among left m ≡ false) ⊎ (l ≡ m) → on a' (end_in hall.plan.link m) k ≡ true
      took m k hm hk h e f (inl n) = A.kept (end_in hall.plan.link m) k (omega arith) hk (G.took m k hm hk h n e f)
      took m k hm hk h e f (inr q) =
          let o = G.kept (source_in hall.plan.link m) k (omega (arith, D.sources m hm, D.small)) hk e in
          rw q at (A.took k hk (rw (← q) at h) (rw (← q) at o) (rw (← q) at f))

      settled : (m k : ℕ) → m < hall.plan.links → k < 512 → end_in hall.plan.link m < 16 → among next m ≡ false → on a (source_in hall.plan.link m) k ≡ true → on hall.label m k ≡ true → (among left m ≡ false) ⊎ (l ≡ m)
          → on a' (end_in hall.plan.link m) k ≡ true
      settled m k hm hk h x e f (inl n) = A.kept (end_in hall.plan.link m) k (omega arith) hk (G.settled m k hm hk h n x e f)
      settled m k hm hk h x e f (inr q) = rw q at (A.took k hk (rw (← q) at h) (rw (← q) at e) (rw (← q) at f))

  pub going_end : left ≡ 0 → Round hall b a next
  going_end z = record {
    size = G.size;
    kept = G.kept;
    reached = G.reached;
    took = λ l k hl hk h e f. G.took l k hl hk h (none l) e f;
    settled = record { on_all = λ l k hl hk h g e f. G.settled l k hl hk h (none l) g e f; declared = G.declared_next };
  }
    where
      none : (l : ℕ) → among left l ≡ false
      none l = rw z (zero_bits l)

-- ---- round after round

-- after i rounds: each node that a walk stands at after i moves or fewer has the atom
pub record Waves (hall : Hall) (v : ℕ) (stand : List ℕ) (from i : ℕ) : Type 0 where
  pub size : length stand ≡ table_words
  pub reached : (owner : List ℕ) (nodes : ℕ) → Carries hall.plan.link hall.label owner hall.plan.links nodes → Reached hall.plan.link owner v stand
  pub settled : SettledBut hall from stand
  pub within : (owner : List ℕ) (nodes : ℕ) → Carries hall.plan.link hall.label owner hall.plan.links nodes → Within hall.plan.link owner v (i + 1) stand

at_once : (v w : ℕ) → at v ≡ at w → v ≡ w
at_once v w e = cc

pub waves_start : {v : ℕ} {stand : List ℕ} (hall : Hall) (leaving : List ℕ) → Leaving hall.plan.link hall.plan.links leaving → Laid hall.plan → v < 16 → Filled v stand
    → Waves hall v stand (get_or leaving v 0) 0
unfolding after
waves_start {v} {stand} hall leaving L D hv F = record {
  size = F.size;
  reached = λ owner nodes C. record { comes = λ w k hw hk e. let q = eqb-true w v (sym (F.member w k hw hk) ∙ e) in (rw q hv, (0, ap at (sym q))) };
  settled = record {
    on_all = λ l k hl hk h g e f. absurd (alone l k hl hk h (ℕ_discrete (source_in hall.plan.link l) v) g e);
    declared = λ l hl e. L.only v l hv hl e;
  };
  within = λ owner nodes C. record { stood = λ j k w hj hk e. first owner j k w hj hk e };
}
  where
    alone : (l k : ℕ) → l < hall.plan.links → k < 512 → end_in hall.plan.link l < 16 → Dec (source_in hall.plan.link l ≡ v) → among (get_or leaving v 0) l ≡ false → on stand (source_in hall.plan.link l) k ≡ true → ⊥
    alone l k hl hk h (yes q) g e = true≢false (sym (L.all l hl h) ∙ ap (λ (x : ℕ). among (get_or leaving x 0) l) q ∙ g)
    alone l k hl hk h (no n) g e = true≢false (sym e ∙ F.member (source_in hall.plan.link l) k (omega (arith, D.sources l hl, D.small)) hk ∙ ne_eqb (source_in hall.plan.link l) v n)

    first : (owner : List ℕ) (j k w : ℕ) → j < 0 + 1 → k < 512 → after (next_in owner k) (end_in hall.plan.link) j (at v) ≡ at w → on stand w k ≡ true
    first owner zero k w hj hk e = let q = at_once v w e in ap (λ (x : ℕ). on stand x k) (sym q) ∙ F.member v k (omega arith) hk ∙ eq-eqb v v refl
    first owner (suc j) k w hj hk e = absurd (omega arith)

-- a walk's last move, along a link
module _ {link label owner : List ℕ} {links nodes : ℕ} (C : Carries link label owner links nodes) (v j k w : ℕ) (hk : k < 512) where
  last_move : after (next_in owner k) (end_in link) (suc j) (at v) ≡ at w
      → (l : ℕ) × (l < links) × (end_in link l ≡ w) × (w < 16) × (on label l k ≡ true) × (after (next_in owner k) (end_in link) j (at v) ≡ at (source_in link l))
  last_move e =
      let g = going_down (next_in owner k) (end_in link) (at v) j (w, e) in
      let m = moved_by C k hk g.0 w (sym (ap (move (next_in owner k) (end_in link)) g.1) ∙ sym (after_suc (next_in owner k) (end_in link) j (at v)) ∙ e) in
      (m.0, m.1.declared, m.2, m.3, m.1.has, g.1 ∙ ap at (sym m.1.here))

module _ (hall : Hall) {owner : List ℕ} {nodes v : ℕ} (C : Carries hall.plan.link hall.label owner hall.plan.links nodes) (hv : v < 16) where
  -- what has moved on once stands one move further
  within_more : {b a : List ℕ} (i : ℕ) → Within hall.plan.link owner v (i + 1) b → Kept b a → CarriedOn hall b a → Within hall.plan.link owner v (i + 1 + 1) a
  unfolding after
  within_more {b} {a} i I K T = record { stood = go }
    where
      go : (j k w : ℕ) → j < i + 1 + 1 → k < 512 → after (next_in owner k) (end_in hall.plan.link) j (at v) ≡ at w → on a w k ≡ true
      go zero k w hj hk e = let q = at_once v w e in K w k (omega (arith, q)) hk (I.stood 0 k w (omega arith) hk e)
      go (suc j) k w hj hk e =
          let m = last_move C v j k w hk e in
          rw m.2 at (T m.0 k m.1 hk (omega (arith, m.2, m.3)) (I.stood j k (source_in hall.plan.link m.0) (omega arith) hk m.5) m.4)

  -- where all is settled, each node of a walk has the atom
  within_all : {a : List ℕ} (i : ℕ) → Within hall.plan.link owner v (i + 1) a → SettledBut hall 0 a → Within hall.plan.link owner v 16 a
  unfolding after
  within_all {a} i I S = record { stood = λ j k w hj hk e. go j k w hk e }
    where
      go : (j k w : ℕ) → k < 512 → after (next_in owner k) (end_in hall.plan.link) j (at v) ≡ at w → on a w k ≡ true
      go zero k w hk e = I.stood 0 k w (omega arith) hk e
      go (suc j) k w hk e =
          let m = last_move C v j k w hk e in
          rw m.2 at (S.on_all m.0 k m.1 hk (omega (arith, m.2, m.3)) (zero_bits m.0) (go j k (source_in hall.plan.link m.0) hk m.5) m.4)

module _ {hall : Hall} {v : ℕ} {b : List ℕ} {from i : ℕ} (hv : v < 16) where
  pub waves_more : {a : List ℕ} {next : ℕ} → Waves hall v b from i → Round hall b a next → Waves hall v a next (i + 1)
  waves_more W R = record {
    size = R.size;
    reached = λ owner nodes C. R.reached owner nodes v C (W.reached owner nodes C);
    settled = R.settled;
    within = λ owner nodes C. within_more hall C hv i (W.within owner nodes C) R.kept R.took;
  }

  -- nothing is left to be carried on
  pub waves_done : Waves hall v b from i → from ≡ 0 → Spread hall v b
  waves_done W z = record { size = W.size; reached = W.reached; within = λ owner nodes C. within_all hall C hv i (W.within owner nodes C) (rw z at W.settled) }

  -- 15 rounds: each node that a walk stands at after fewer than 16 moves has the atom
  pub waves_end : Waves hall v b from i → i ≡ 15 → Spread hall v b
  waves_end W e = record { size = W.size; reached = W.reached; within = λ owner nodes C. record { stood = λ j k w hj. (W.within owner nodes C).stood j k w (omega arith) } }

-- ---- the atoms that leave

pub outward_none : (hall : Hall) (b : List ℕ) → length b ≡ table_words → Outward hall 0 b b
unfolding any_below
outward_none hall b size = record { size = size; out = λ k hk. sym (or-false (on b out_row k)); else = λ u k hu hk n. refl }

module _ {hall : Hall} {b a : List ℕ} {l : ℕ} (O : Outward hall l b a) where
  pub outward_by : {a' : List ℕ} {s : ℕ} {grew : Bool} → end_in hall.plan.link l / 256 ≡ 1 → s ≡ source_in hall.plan.link l → s < 16 → JoinedRow (on hall.label l) s out_row a a' grew → Outward hall (l + 1) b a'
  unfolding leaves_by
  outward_by {a'} {s} {grew} port from hs J = record {
    size = J.size;
    out = λ k hk.
        let t : (eqb out_row out_row && (on a s k && on hall.label l k)) ≡ leaves_by hall.plan.link hall.label b k l = ap₂ ◌&&◌ (sym (eq-eqb (end_in hall.plan.link l / 256) 1 port)) (ap (λ (x : Bool). x && on hall.label l k) (O.else s k (omega arith) hk (λ q. omega arith) ∙ ap (λ (x : ℕ). on b x k) from)) in
        J.member out_row k (omega arith) hk
        ∙ ap₂ ◌||◌ (O.out k hk) t
        ∙ or_assoc (on b out_row k) (any_below l (leaves_by hall.plan.link hall.label b k)) (leaves_by hall.plan.link hall.label b k l)
        ∙ ap (λ (x : Bool). on b out_row k || x) (sym (any_more (leaves_by hall.plan.link hall.label b k) l));
    else = λ u k hu hk n. J.member u k hu hk ∙ ap (λ (t : Bool). on a u k || (t && (on a s k && on hall.label l k))) (ne_eqb u out_row n) ∙ or-false (on a u k) ∙ O.else u k hu hk n;
  }

  pub outward_not : (end_in hall.plan.link l / 256 ≡ 1 → ⊥) → Outward hall (l + 1) b a
  unfolding leaves_by
  outward_not n = record {
    size = O.size;
    out = λ k hk.
        let t : leaves_by hall.plan.link hall.label b k l ≡ false = ap (λ (x : Bool). x && (on b (source_in hall.plan.link l) k && on hall.label l k)) (ne_eqb (end_in hall.plan.link l / 256) 1 n) in
        O.out k hk ∙ ap (λ (x : Bool). on b out_row k || x) (sym (any_more (leaves_by hall.plan.link hall.label b k) l ∙ ap (λ (x : Bool). any_below l (leaves_by hall.plan.link hall.label b k) || x) t ∙ or-false (any_below l (leaves_by hall.plan.link hall.label b k))));
    else = O.else;
  }

-- ---- the atoms that no link takes on

pub stayed_none : (hall : Hall) (b : List ℕ) → length b ≡ table_words → Stayed hall 0 b b
unfolding any_below
stayed_none hall b size = record { size = size; member = λ u k hu hk. sym (and-true (on b u k)) }

-- neither of two, one after the other
and_neither : (x p q : Bool) → ((x && not p) && not q) ≡ (x && not (p || q))
and_neither true true q = refl
and_neither true false q = refl
and_neither false p q = refl

module _ {hall : Hall} {b a : List ℕ} {l : ℕ} (S : Stayed hall l b a) where
  pub stayed_by : {a' : List ℕ} {s : ℕ} → end_in hall.plan.link l < 512 → s ≡ source_in hall.plan.link l → TakenAway (on hall.label l) s a a' → Stayed hall (l + 1) b a'
  unfolding goes_on
  stayed_by {a'} {s} h from T = record {
    size = T.size;
    member = λ u k hu hk.
        let t : (eqb u s && on hall.label l k) ≡ goes_on hall.plan.link hall.label u k l = ap₂ ◌&&◌ (sym (lt-ltb (end_in hall.plan.link l) 512 h)) (ap (λ (x : Bool). x && on hall.label l k) (ap (eqb u) from ∙ eqb_comm u (source_in hall.plan.link l))) in
        T.member u k hu hk
        ∙ ap₂ (λ (x y : Bool). x && not y) (S.member u k hu hk) t
        ∙ and_neither (on b u k) (any_below l (goes_on hall.plan.link hall.label u k)) (goes_on hall.plan.link hall.label u k l)
        ∙ ap (λ (x : Bool). on b u k && not x) (sym (any_more (goes_on hall.plan.link hall.label u k) l));
  }

  pub stayed_not : 512 ≤ end_in hall.plan.link l → Stayed hall (l + 1) b a
  unfolding goes_on
  stayed_not h = record {
    size = S.size;
    member = λ u k hu hk.
        let t : goes_on hall.plan.link hall.label u k l ≡ false = ap (λ (x : Bool). x && (eqb (source_in hall.plan.link l) u && on hall.label l k)) (le-ltb (end_in hall.plan.link l) 512 h) in
        S.member u k hu hk
        ∙ ap (λ (x : Bool). on b u k && not x) (sym (any_more (goes_on hall.plan.link hall.label u k) l ∙ ap (λ (x : Bool). any_below l (goes_on hall.plan.link hall.label u k) || x) t ∙ or-false (any_below l (goes_on hall.plan.link hall.label u k))));
  }

-- ---- the atoms divided by their fates

any_same : (P Q : ℕ → Bool) (n : ℕ) → ((i : ℕ) → i < n → P i ≡ Q i) → any_below n P ≡ any_below n Q
unfolding any_below
any_same P Q zero h = refl
any_same P Q (suc n) h = ap₂ ◌||◌ (any_same P Q n (λ i l. h i (omega arith))) (h n (omega arith))

module _ {hall : Hall} {v : ℕ} {a b c d : List ℕ} (D : Laid hall.plan) (S : Spread hall v a)
    (O : Outward hall hall.plan.links a b) (T : Stayed hall hall.plan.links b c) (G : Gathered 16 c d) where
  -- no link starts past the nodes
  none_past : (u k : ℕ) → 16 ≤ u → any_below hall.plan.links (goes_on hall.plan.link hall.label u k) ≡ false
  unfolding goes_on
  none_past u k hu = any_off _ hall.plan.links (λ l hl.
      ap (λ (x : Bool). ltb (end_in hall.plan.link l) 512 && (x && on hall.label l k)) (ne_eqb (source_in hall.plan.link l) u (λ q. omega (arith, q, D.sources l hl, D.small))) ∙ and-false (ltb (end_in hall.plan.link l) 512))

  past_kept : (u k : ℕ) → 16 ≤ u → u < rows → k < 512 → on c u k ≡ on b u k
  past_kept u k lu hu hk = T.member u k hu hk ∙ ap (λ (x : Bool). on b u k && not x) (none_past u k lu) ∙ and-true (on b u k)

  module _ {owner : List ℕ} {nodes : ℕ} (k : ℕ) (C : Carries hall.plan.link hall.label owner hall.plan.links nodes) (hv : v < nodes) (hk : k < 512) where
    -- no walk stands past the nodes
    past_none : (u : ℕ) → 16 ≤ u → u < rows → on a u k ≡ false
    past_none u lu hu = go (on a u k) refl
      where
        go : (t : Bool) → on a u k ≡ t → t ≡ false
        go false e = refl
        go true e = absurd (omega (arith, lu, ((S.reached owner nodes C).comes u k hu hk e).0))

    out_row_lem : on d out_row k ≡ is_out (fate_in (next_in owner k) (end_in hall.plan.link) nodes 0 v)
    out_row_lem =
        G.else out_row k (omega arith) hk ∙ past_kept out_row k (omega arith) (omega arith) hk ∙ O.out k hk
        ∙ ap (λ (x : Bool). x || any_below hall.plan.links (leaves_by hall.plan.link hall.label a k)) (past_none out_row (omega arith) (omega arith))
        ∙ sym (out_is C k hk hv (S.reached owner nodes C) (S.within owner nodes C))

    lost_row_lem : on d lost_row k ≡ is_lost (fate_in (next_in owner k) (end_in hall.plan.link) nodes 0 v)
    unfolding lost_at
    lost_row_lem =
        G.lost k hk
        ∙ ap₂ ◌||◌
        (past_kept lost_row k (omega arith) (omega arith) hk ∙ O.else lost_row k (omega arith) hk (λ q. omega arith) ∙ past_none lost_row (omega arith) (omega arith))
        (any_same (λ u. on c u k) (lost_at hall.plan.link hall.label hall.plan.links a k) 16 (λ u hu.
        T.member u k (omega arith) hk ∙ ap (λ (x : Bool). x && not (any_below hall.plan.links (goes_on hall.plan.link hall.label u k))) (O.else u k (omega arith) hk (λ q. omega arith))))
        ∙ sym (lost_is C k hk hv (S.reached owner nodes C) (S.within owner nodes C))

  -- THE LAW: the rows of those that go out and of those that are lost
  pub divided : Divided hall v d
  divided = record { out = λ owner nodes k C hv hk. out_row_lem k C hv hk; lost = λ owner nodes k C hv hk. lost_row_lem k C hv hk }
