-- Laws of rules by their words: those that stand at a node, those that tie, an insert's last checks, the gathered rules and the best among them.
-- Assumes nothing.
use mathlib.Core.Path.{◌≡◌, refl, sym, ap, ◌∙◌, subst}
use mathlib.Core.Logic.{inl, inr, ⊎_elim}
use mathlib.Core.Bool.{Bool, true, false, ◌||◌, or-false, ◌&&◌, not, true≢false, and-true, and-false, and_assoc}
use mathlib.Core.List.{List, [], ◌∷◌}
use mathlib.Core.Option.{none, some}
use Prim.Native.Nat.{ℕ, zero, suc, ◌+◌, ◌/◌, ◌^◌, ◌≤◌, ◌<◌}
use native.Mathlib.Nat.{not-suc-le-zero}
use native.Mathlib.Decide.{ℕ_discrete}
use native.Mathlib.Omega.{arith}
use lib.Bits.{bit_and, and_mask, and_zero_r}
use lib.Dec.{ltb, eqb}
use lib.ListN.{length, get_or, set}
use lib.Seq.{get_or-set_same, get_or-set_other}
use borrow.Author.Count.{below_more}
use borrow.Author.Tests.{eq-eqb, ne_eqb, lt-ltb, le-ltb, le-leb, lt-leb}
use Rattle.meaning.specs.declared.Refusal.TheVariants.{Tie, CutsFull}
use Rattle.std.proofs.Common.{add-one, fold, take}
use Rattle.std.proofs.Math.Bool.{or_assoc}
use Rattle.std.proofs.lemmas.List.{take_all, get_or-take, length-take-le}
use Rattle.std.proofs.lemmas.List.Folds.{list_any_more, list_any_at}
use Rattle.std.specs.List.{list_any}
use Rattle.meaning.specs.Records.{insert}
use Rattle.meaning.specs.Search.{pick, any_below}
use Rattle.meaning.specs.Step.{ragged, clashes, added, update_refusal}
use Rattle.meaning.specs.Rule.{rule_word, live, link_of, rank, lower, upper, covers, overlap}
use Rattle.meaning.specs.Hall.{State, source_of}
use Rattle.meaning.specs.Winner.{better, rule_at, eligible, winner}
use Rattle.meaning.proofs.base.Order.{le_or_lt}
use Rattle.meaning.proofs.rules.Words.{RuleFits, link_of_lem}
use Rattle.meaning.proofs.records.Checks.{rule_clashes, cuts_many, passes}
use Rattle.meaning.proofs.rules.Ranks.{keep_out, take_first, take_higher, keep_lower}
use Rattle.meaning.proofs.base.Search.{and_both, any_off}
use Rattle.meaning.proofs.rules.Covers.{both_cover}
use Rattle.meaning.proofs.sound.Winner.{Winner, wins}
use Rattle.meaning.specs.Tables.{Sound}
use Rattle.meaning.specs.Atoms.{is_boundary}
use Rattle.lent.proofs.Labelled.{link_small}
use Rattle.tables.specs.Gathered.{standing, tying, best_in, mask_of, Marks, IsAmong, Gathering, Gathers}

-- ---- standing, covering, overlapping and tying, by the tests on the way

-- a word whose bits are all b keeps x where b is true, and else nothing of it
module _ (width x : ℕ) (h : x < 2 ^ 64) where
  masked : (b : Bool) → bit_and x (mask_of b) ≡ pick b x 0
  masked true = and_mask x 64 ∙ omega arith
  masked false = and_zero_r x

  live_and : (b : Bool) → not (eqb (pick b x 0) 0) ≡ (live x && b)
  unfolding live
  live_and true = sym (and-true (live x))
  live_and false = sym (and-false (live x))

  pub live_marked : (l : ℕ) (here : List ℕ) → l ≡ link_of width x → (b : Bool) → get_or here (link_of width x) 0 ≡ mask_of b
      → not (eqb (bit_and x (get_or here l 0)) 0) ≡ (live x && b)
  live_marked l here isLink b e = rw (isLink, e, masked b) (live_and b)

module _ (width : ℕ) (link : List ℕ) (v x : ℕ) where
  pub stands_marked : (r : Bool) (here : List ℕ) → Marks link v here → ((b : Bool) → get_or here (link_of width x) 0 ≡ mask_of b → r ≡ (live x && b))
      → r ≡ standing width link v x
  unfolding standing
  stands_marked r here m f = f (eqb (get_or link (link_of width x) 0 / 1024) v) (m.right (link_of width x) (link_small width x))

-- the ends are those that code has
module _ (width x a l u : ℕ) (isLow : l ≡ lower width x) (isHigh : u ≡ upper width x) where
  pub covers_from : l ≤ a → ltb a u ≡ covers width x a
  unfolding covers
  covers_from h = rw (isHigh, le-leb (lower width x) a (omega arith))

  pub covers_past : u ≤ a → covers width x a ≡ false
  unfolding covers
  covers_past h = rw (le-ltb a (upper width x) (omega arith), and-false)

  pub covers_between : l ≤ a → a < u → covers width x a ≡ true
  covers_between h g = sym (covers_from h) ∙ lt-ltb a u g

pub covers_below : (width x a l : ℕ) → l ≡ lower width x → a < l → covers width x a ≡ false
unfolding covers
covers_below width x a l e h = rw (lt-leb (lower width x) a (omega arith))

module _ (width : ℕ) (link : List ℕ) (v w x : ℕ) where
  tying_is : tying width link v w x ≡ (standing width link v x && (eqb (rank width x) (rank width w) && overlap width x w))
  unfolding tying standing
  tying_is = sym (and_assoc (live x) _ _)

  pub ties_elsewhere : standing width link v x ≡ false → false ≡ tying width link v w x
  ties_elsewhere e = rw (tying_is, e)

  pub ties_apart : (a b : ℕ) → a ≡ rank width x → b ≡ rank width w → (a ≡ b → ⊥) → false ≡ tying width link v w x
  ties_apart a b e f n = rw (tying_is, ne_eqb (rank width x) (rank width w) (λ d. n (e ∙ d ∙ sym f)), and-false)

  pub ties_if : (a b : ℕ) → a ≡ rank width x → b ≡ rank width w → a ≡ b → standing width link v x ≡ true → overlap width x w ≡ tying width link v w x
  ties_if a b e f d s = rw (tying_is, s, eq-eqb (rank width x) (rank width w) (sym e ∙ d ∙ f))

-- ---- whether some word has a rank, and whether one ties

pub folded_any : {X : Type 0} (p : X → Bool) (b : Bool) (xs : List X) → fold (λ c x. c || p x) b xs ≡ b || list_any p xs
folded_any p b [] = sym (or-false b)
folded_any p b (x ∷ xs) = folded_any p (b || p x) xs ∙ or_assoc b (p x) (list_any p xs)

-- the first n of a list, by their indices
any_first : (p : ℕ → Bool) (xs : List ℕ) (n : ℕ) → n ≤ length xs → list_any p (take n xs) ≡ any_below n (λ i. p (get_or xs i 0))
unfolding any_below
any_first p xs zero h = refl
any_first p xs (suc n) h =
    ap (λ (k : ℕ). list_any p (take k xs)) (sym (add-one n)) ∙ list_any_more p xs n 0 (omega arith) ∙ ap (λ (b : Bool). b || p (get_or xs n 0)) (any_first p xs n (omega arith))

pub any_listed : (p : ℕ → Bool) (xs : List ℕ) (n : ℕ) → length xs ≡ n → list_any p xs ≡ any_below n (λ i. p (get_or xs i 0))
any_listed p xs n e = ap (list_any p) (sym (take_all n xs (omega arith))) ∙ any_first p xs n (omega arith)

-- where no word has the rank of w, none ties with it
pub ties_nowhere : (width : ℕ) (link rule : List ℕ) (v w : ℕ) → length rule ≡ 256 → list_any (λ x. eqb (rank width x) (rank width w)) rule ≡ false
    → false ≡ any_below 256 (λ i. tying width link v w (get_or rule i 0))
ties_nowhere width link rule v w e f =
    sym (any_off _ 256 (λ i h. sym (ties_apart width link v w (get_or rule i 0) _ _ refl refl (λ d.
    true≢false (sym (list_any_at (λ x. eqb (rank width x) (rank width w)) rule i 0 (omega arith) (eq-eqb _ _ d)) ∙ f)))))

-- ---- the last checks of an insert

-- the checks before these have passed, and code has the node v, the word w, and whether a rule ties
pub record Tried (m : State) (r l p n t v w : ℕ) (tied : Bool) : Type 0 where
  pub low : r ≤ 255
  pub free : rule_at m r ≡ 0
  pub known : l < m.plan.links
  pub fits : RuleFits m.width l p n t
  pub whole : ragged m.width p n ≡ false
  pub source : v ≡ get_or m.plan.link l 0 / 1024
  pub word : w ≡ rule_word m.width l p n t
  pub ties : tied ≡ any_below 256 (λ i. tying m.width m.plan.link v w (get_or m.rule i 0))

module _ {m : State} {r l p n t v w : ℕ} {tied : Bool} (T : Tried m r l p n t v w tied) where
  clash : tied ≡ clashes m (rule_word m.width l p n t)
  unfolding clashes tying rule_at source_of
  clash = T.ties ∙ rw (T.word, T.source, link_of_lem T.fits)

  pub insert_ties : tied ≡ true → some Tie ≡ update_refusal m (insert r l p n t)
  insert_ties e = sym (rule_clashes m r l p n t T.low T.free T.known T.fits.long T.whole (sym clash ∙ e))

  module _ (apart : tied ≡ false) (b c x y : ℕ) (isLow : b ≡ lower m.width w) (isHigh : c ≡ upper m.width w)
      (isX : x ≡ pick (is_boundary m b) 0 1) (isY : y ≡ pick (is_boundary m c) 0 1) where
    more_cuts : x + y ≡ added m (rule_word m.width l p n t)
    unfolding added
    more_cuts = rw (isX, isY, isLow, isHigh, T.word)

    pub insert_full : 512 < m.atoms.count + (x + y) → some CutsFull ≡ update_refusal m (insert r l p n t)
    insert_full h = sym (cuts_many m r l p n t T.low T.free T.known T.fits.long T.whole (sym clash ∙ apart) (omega (arith, more_cuts)))

    pub insert_passes : m.atoms.count + (x + y) ≤ 512 → none ≡ update_refusal m (insert r l p n t)
    insert_passes h = sym (passes m r l p n t T.low T.free T.known T.fits.long T.whole (sym clash ∙ apart) (omega (arith, more_cuts)))

-- ---- gathering

module _ {width : ℕ} {link rule : List ℕ} {v w : ℕ} {among : List ℕ} where
  pub gathered_none : Gathering width link rule v w among 0 0
  gathered_none = record {
    few = omega arith;
    within = λ j h. absurd (not-suc-le-zero h);
    each = λ j h. absurd (not-suc-le-zero h);
    all = λ k h. absurd (not-suc-le-zero h);
  }

  pub gathered_to : {count i : ℕ} → Gathering width link rule v w among count i → (k : ℕ) → i ≡ k → Gathering width link rule v w among count k
  gathered_to g k e = subst (Gathering width link rule v w among _) e g

  -- the first count of them alone, once i is the last
  pub gathered_front : {count i : ℕ} → Gathering width link rule v w among count i → i ≡ 256 → count ≤ length among
      → Gathers width link rule v w (take count among) (length (take count among))
  gathered_front {count} {i} g e h = record {
    few = omega (arith, size, g.few);
    within = λ j l. omega (arith, size, same j (omega (arith, size)), g.within j (omega (arith, size)));
    each = λ j l. rw (same j (omega (arith, size))) (g.each j (omega (arith, size)));
    all = λ k l s o. let b = g.all k (omega arith) s o in (b.0, omega (arith, size, b.1), same b.0 b.1 ∙ b.2);
  }
    where
      size : length (take count among) ≡ count
      size = length-take-le count among h

      same : (j : ℕ) → j < count → get_or (take count among) j 0 ≡ get_or among j 0
      same j l = get_or-take count among j 0 l

  module _ {count i : ℕ} (g : Gathering width link rule v w among count i) where
    pub gathered_skip : (standing width link v (get_or rule i 0) ≡ true → overlap width (get_or rule i 0) w ≡ true → ⊥) → Gathering width link rule v w among count (i + 1)
    gathered_skip f = record {
      few = omega (arith, g.few);
      within = λ j h. omega (arith, g.within j h);
      each = g.each;
      all = below_more (IsAmong width link rule v w among count) i g.all (λ s o. absurd (f s o));
    }

    pub gathered_take : count < length among → standing width link v (get_or rule i 0) ≡ true → Gathering width link rule v w (set among count i) (count + 1) (i + 1)
    gathered_take l s = record {
      few = omega (arith, g.few);
      within = below_more (λ j. get_or (set among count i) j 0 < i + 1) count (λ j h. omega (arith, g.within j h, old j h)) (omega (arith, new));
      each = below_more (λ j. standing width link v (get_or rule (get_or (set among count i) j 0) 0) ≡ true) count (λ j h. rw (old j h) (g.each j h)) (rw new s);
      all = below_more (IsAmong width link rule v w (set among count i) (count + 1)) i
          (λ k h t o. let b = g.all k h t o in (b.0, omega (arith, b.1), old b.0 b.1 ∙ b.2)) (λ t o. (count, omega arith, new));
    }
      where
        old : (j : ℕ) → j < count → get_or (set among count i) j 0 ≡ get_or among j 0
        old j h = get_or-set_other among count j i 0 (λ e. omega arith)

        new : get_or (set among count i) count 0 ≡ i
        new = get_or-set_same among count i 0 l

-- ---- the best among the gathered

module _ (E : ℕ → Bool) (r : ℕ → ℕ) (among : List ℕ) where
  pub best_in_none : 256 ≡ best_in E r among 0
  unfolding best_in
  best_in_none = refl

  pub best_in_more : (b t j : ℕ) → b ≡ best_in E r among j → t ≡ better E r b (get_or among j 0) → t ≡ best_in E r among (j + 1)
  unfolding best_in
  best_in_more b t j e d = rw add-one (d ∙ rw e)

  abbrev Out : ℕ → Type 0
  Out j = E (get_or among j 0) ≡ true → ⊥

  abbrev Under : ℕ → ℕ → Type 0
  Under b j = E (get_or among j 0) ≡ true → r (get_or among j 0) ≤ r b

  -- what b is among the first count of them
  data Outcome (count b : ℕ) : Type 0 where
    nobody : b ≡ 256 → ((j : ℕ) → j < count → Out j) → Outcome count b
    somebody : b < 256 → (j : ℕ) → j < count → get_or among j 0 ≡ b → E b ≡ true → ((j : ℕ) → j < count → Under b j) → Outcome count b

  step : (k b : ℕ) → get_or among k 0 < 256 → Outcome k b → Outcome (k + 1) (better E r b (get_or among k 0))
  step k b l o = go (E i) refl o
    where
      i : ℕ
      i = get_or among k 0

      rest : (b' : ℕ) → b' ≡ better E r b i → Outcome (k + 1) b' → Outcome (k + 1) (better E r b i)
      rest b' e p = subst (Outcome (k + 1)) e p

      go : (t : Bool) → E i ≡ t → Outcome k b → Outcome (k + 1) (better E r b i)
      go false e (nobody n f) = rest b (keep_out E r b i e) (nobody n (below_more Out k f (λ d. true≢false (sym d ∙ e))))
      go false e (somebody s j h a c f) =
          rest b (keep_out E r b i e) (somebody s j (omega arith) a c (below_more (Under b) k f (λ d. absurd (true≢false (sym d ∙ e)))))
      go true e (nobody n f) =
          rest i (take_first E r b i e n) (somebody l k (omega arith) refl e (below_more (Under i) k (λ j h d. absurd (f j h d)) (λ d. omega arith)))
      go true e (somebody s j h a c f) =
          ⊎_elim
          (λ (g : r i ≤ r b). rest b (keep_lower E r b i e (λ z. omega arith) g) (somebody s j (omega arith) a c (below_more (Under b) k f (λ d. g))))
          (λ (g : r b < r i). rest i (take_higher E r b i e (λ z. omega arith) g)
          (somebody l k (omega arith) refl e (below_more (Under i) k (λ j h d. omega (arith, f j h d)) (λ d. omega arith))))
          (le_or_lt (r i) (r b))

  outcome : (count : ℕ) → ((j : ℕ) → j < count → get_or among j 0 < 256) → Outcome count (best_in E r among count)
  unfolding best_in
  outcome zero f = nobody refl (λ j h. absurd (not-suc-le-zero h))
  outcome (suc k) f = rw add-one at (step k (best_in E r among k) (f k (omega arith)) (outcome k (λ j h. f j (omega arith))))

-- ---- the best of the gathered is the winner

module _ (m : State) (v w a : ℕ) (among : List ℕ) (count : ℕ) (S : Sound m) (g : Gathers m.width m.plan.link m.rule v w among count) where
  abbrev covering : ℕ → Bool
  covering k = covers m.width (get_or m.rule k 0) a

  abbrev ranked : ℕ → ℕ
  ranked k = rank m.width (get_or m.rule k 0)

  eligible_is : (k : ℕ) → eligible m v a k ≡ (standing m.width m.plan.link v (get_or m.rule k 0) && covers m.width (get_or m.rule k 0) a)
  unfolding eligible standing source_of rule_at
  eligible_is k = sym (and_assoc (live (get_or m.rule k 0)) _ _)

  eligible_among : (k : ℕ) → k < 256 → lower m.width w ≤ a → a < upper m.width w → eligible m v a k ≡ true
      → (covering k ≡ true) × ((j : ℕ) × (j < count) × (get_or among j 0 ≡ k))
  eligible_among k h from below e =
      let b = and_both _ _ (sym (eligible_is k) ∙ e) in
      (b.1, g.all k h b.0 (both_cover m.width (get_or m.rule k 0) w a b.1 (covers_between m.width w a _ _ refl refl from below)))

  among_eligible : (j b : ℕ) → j < count → get_or among j 0 ≡ b → covering b ≡ true → eligible m v a b ≡ true
  among_eligible j b h e f =
      rw (eligible_is, f, subst (λ (k : ℕ). standing m.width m.plan.link v (get_or m.rule k 0) ≡ true) e (g.each j h))

  -- THE LAW: for an address that w covers, the best of the gathered is the winner
  pub best_gathered : lower m.width w ≤ a → a < upper m.width w → best_in covering ranked among count ≡ winner m v a
  unfolding rule_at
  best_gathered from below = go (outcome covering ranked among count g.within) (wins m S v a)
    where
      b : ℕ
      b = best_in covering ranked among count

      x : ℕ
      x = winner m v a

      go : Outcome covering ranked among count b → Winner m v a x → b ≡ x
      go (nobody e f) (inl o) = e ∙ sym o.0
      go (nobody e f) (inr o) =
          let t = eligible_among x o.within from below o.fits in
          absurd (f t.1.0 t.1.1 (ap covering t.1.2 ∙ t.0))
      go (somebody s j h e c f) (inl o) = absurd (o.1 b s (among_eligible j b h e c))
      go (somebody s j h e c f) (inr o) =
          let t = eligible_among x o.within from below o.fits in
          at (subst (λ (k : ℕ). ranked k ≤ ranked b) t.1.2 (f t.1.0 t.1.1 (ap covering t.1.2 ∙ t.0))) (ℕ_discrete b x)
        where
          at : ranked x ≤ ranked b → Dec (b ≡ x) → b ≡ x
          at most (yes d) = d
          at most (no d) = absurd (omega (arith, o.highest b s (among_eligible j b h e c) d))
