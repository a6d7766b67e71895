-- The laws of the walk. A walk of n moves among n nodes never ends, and `fate_in` is the fate.
-- Assumes nothing.
use mathlib.Core.Path.{◌≡◌, refl, sym, ◌∙◌, ap}
use mathlib.Core.Option.{Option}
use mathlib.Core.Logic.{◌↔◌}
use Prim.Native.Nat.{ℕ, zero, suc, ◌+◌, ◌-◌, ◌≤◌, ◌<◌}
use native.Mathlib.Nat.{zero-add, suc-add, add-zero}
use native.Mathlib.Numerals.{add-one, sub-one}
use native.Mathlib.Omega.{arith}
use Rattle.meaning.specs.declared.Fate.{Fate}
use Rattle.meaning.specs.declared.Fate.TheVariants.{Out, Lost, Round}
use Rattle.meaning.specs.Walk.{Position, at, out, lost, leave, move, after, told, fate_in}
use Rattle.meaning.proofs.walk.Moves.{lost_here}
use Rattle.meaning.proofs.base.Pigeon.{pigeon}
use Rattle.meaning.proofs.base.Order.{clash}

module _ (next : ℕ → Option ℕ) (end : ℕ → ℕ) where
  -- the walk from p is still going after k moves: the packet stands at a node
  abbrev pub Going : ℕ → Position → Type 0
  Going k p = (w : ℕ) × (after next end k p ≡ at w)

  -- the walk from p never ends
  abbrev pub Never : Position → Type 0
  Never p = (k : ℕ) → Going k p

  -- what becomes of a packet that stands at v: the link or the node, and the moves made
  unfoldable pub IsFate : ℕ → Fate → Type 0
  IsFate v (Out l h) = (w : ℕ) × (after next end h (at v) ≡ at w) × (move next end (at w) ≡ out l)
  IsFate v (Lost w h) = (after next end h (at v) ≡ at w) × (move next end (at w) ≡ lost w)
  IsFate v Round = Never (at v)

  -- the nodes are those below n: a move from one of them leads to one of them, if to a node
  abbrev pub Closed : ℕ → Type 0
  Closed n = (v w : ℕ) → v < n → move next end (at v) ≡ at w → w < n

  -- the walk from v comes to w
  abbrev pub Reaches : ℕ → ℕ → Type 0
  Reaches v w = (k : ℕ) × (after next end k (at v) ≡ at w)

  -- v lies on a circle: some moves, one at least, lead back to it
  abbrev pub OnCircle : ℕ → Type 0
  OnCircle v = (k : ℕ) × (0 < k) × (after next end k (at v) ≡ at v)

node_of : Position → ℕ
node_of (at v) = v
node_of (out l) = 0
node_of (lost v) = 0

-- the walk from p stands at one node after i moves and again after j, at most n
pub record Meets (next : ℕ → Option ℕ) (end : ℕ → ℕ) (p : Position) (n : ℕ) : Type 0 where
  pub i : ℕ
  pub j : ℕ
  pub node : ℕ
  pub less : i < j
  pub within : j ≤ n
  pub first : after next end i p ≡ at node
  pub again : after next end j p ≡ at node

module _ (next : ℕ → Option ℕ) (end : ℕ → ℕ) where
  pub after_add : (a b : ℕ) (p : Position) → after next end (a + b) p ≡ after next end b (after next end a p)
  unfolding after
  after_add zero b p = rw zero-add
  after_add (suc a) b p = rw suc-add (after_add a b (move next end p))

  -- what has ended stays where it is
  pub out_stays : (k l : ℕ) → after next end k (out l) ≡ out l
  unfolding after move
  out_stays zero l = refl
  out_stays (suc k) l = out_stays k l

  pub lost_stays : (k v : ℕ) → after next end k (lost v) ≡ lost v
  unfolding after move
  lost_stays zero v = refl
  lost_stays (suc k) v = lost_stays k v

  pub after_suc : (k : ℕ) (p : Position) → after next end (suc k) p ≡ move next end (after next end k p)
  unfolding after
  after_suc zero p = refl
  after_suc (suc k) p = after_suc k (move next end p)

  module _ (p : Position) where
    pub going_down : (k : ℕ) → Going next end (suc k) p → Going next end k p
    unfolding move
    going_down k g = go (after next end k p) refl
      where
        go : (q : Position) → after next end k p ≡ q → Going next end k p
        go (at w) e = (w, e)
        go (out l) e = clash (cc (after_suc k p, ap (move next end) e, g.1))
        go (lost l) e = clash (cc (after_suc k p, ap (move next end) e, g.1))

    going_sub : (d k m : ℕ) → k + d ≡ m → Going next end m p → Going next end k p
    going_sub zero k m e g = let f : m ≡ k = omega arith in rw f at g
    going_sub (suc d) k m e g = going_down k (going_sub d (suc k) m (omega arith) g)

    pub going_le : (k m : ℕ) → k ≤ m → Going next end m p → Going next end k p
    going_le k m h g = going_sub (m - k) k m (omega arith) g

    -- where two places are the same, so are those m moves on
    pub again : (i j m : ℕ) → after next end i p ≡ after next end j p → after next end (i + m) p ≡ after next end (j + m) p
    again i j m e = rw (after_add i m p, after_add j m p, e)

    -- a walk that comes to a place twice never ends
    pub repeats : (i j : ℕ) → i < j → after next end i p ≡ after next end j p → Going next end j p → Never next end p
    repeats i j lt e g k = going_le k (i + k) (omega arith) (on k)
      where
        on : (m : ℕ) → Going next end (i + m) p
        on zero = going_le (i + 0) j (omega arith) g
        on (suc m) =
            let r = on m in
            going_le (i + suc m) (j + m) (omega arith) (r.0, sym (again i j m e) ∙ r.1)

  module _ (n : ℕ) (closed : Closed next end n) (v : ℕ) (h : v < n) where
    pub below : (k w : ℕ) → after next end k (at v) ≡ at w → w < n
    unfolding after
    below zero w e = let f : v ≡ w = cc in omega arith
    below (suc k) w e =
        let g = going_down (at v) k (w, e) in
        closed g.0 w (below k g.0 g.1) (cc (after_suc k (at v), ap (move next end) g.1))

    -- the first n moves among n nodes come to a node twice
    pub meets : Going next end n (at v) → Meets next end (at v) n
    unfolding node_of
    meets g =
        let path : ℕ → ℕ = λ k. node_of (after next end k (at v)) in
        let r : (k : ℕ) → k ≤ n → Going next end k (at v) = λ k hk. going_le (at v) k n hk g in
        let t = pigeon n path (λ k hk. rw (r k hk).1 (below k (r k hk).0 (r k hk).1)) in
        let a = r t.i (omega arith) in
        let b = r t.j t.within in
        let e : b.0 ≡ a.0 = cc (t.same, ap node_of a.1, ap node_of b.1) in
        record { i = t.i; j = t.j; node = a.0; less = t.less; within = t.within; first = a.1; again = b.1 ∙ ap at e }

    -- THE PIGEONHOLE: a walk that has made n moves among n nodes never ends
    pub never : Going next end n (at v) → Never next end (at v)
    never g = let t = meets g in repeats (at v) t.i t.j t.less (t.first ∙ sym t.again) (t.node, t.again)

    pub round : Going next end n (at v) ↔ Never next end (at v)
    round = (never, λ r. r n)

  -- `fate_in` is the fate, where a walk that makes k moves more never ends
  fate_in_lem : (start k h v : ℕ) → after next end h (at start) ≡ at v → (Going next end (k + h) (at start) → Never next end (at start))
      → IsFate next end start (fate_in next end k h v)
  unfolding IsFate fate_in told
  fate_in_lem start zero h v e r = r (v, rw zero-add e)
  fate_in_lem start (suc k) h v e r =
      let x : k + suc h ≡ suc k + h = omega arith in
      go (λ w f. fate_in_lem start k (suc h) w f (λ g. r (rw x at g))) (move next end (at v)) refl
    where
      go : ((w : ℕ) → after next end (suc h) (at start) ≡ at w → IsFate next end start (fate_in next end k (suc h) w))
          → (q : Position) → move next end (at v) ≡ q → IsFate next end start (told (fate_in next end k (suc h)) h q)
      go ih (at w) f = ih w (cc (after_suc h (at start), ap (move next end) e, f))
      go ih (out l) f = (v, e, f)
      go ih (lost w) f = let s = lost_here next end v w f in (cc, cc)

  -- the fate of a packet at a node v of the hall's n
  pub fate_is : (n : ℕ) → Closed next end n → (v : ℕ) → v < n → IsFate next end v (fate_in next end n 0 v)
  unfolding after
  fate_is n closed v h = fate_in_lem v n 0 v refl (λ g. never n closed v h (rw add-zero at g))

  -- the clauses of `fate_in`, as code counts
  pub fate_none : (k h v : ℕ) → k ≡ 0 → fate_in next end k h v ≡ Round
  unfolding fate_in
  fate_none k h v e = rw e

  pub fate_more : (k h v : ℕ) → 0 < k → fate_in next end k h v ≡ told (fate_in next end (k - 1) (h + 1)) h (leave end v (next v))
  unfolding fate_in move
  fate_more zero h v e = absurd (omega arith)
  fate_more (suc k) h v e = rw (add-one, sub-one)

  -- one node has one fate
  module _ (v : ℕ) where
    stops : (h : ℕ) (q : Position) → ((w : ℕ) → q ≡ at w → ⊥) → (w : ℕ) → after next end h (at v) ≡ at w → move next end (at w) ≡ q → ¬ Going next end (suc h) (at v)
    stops h q f w e m g = f g.0 (cc (after_suc h (at v), ap (move next end) e, g.1))

    same_hops : (h k : ℕ) → Going next end h (at v) → ¬ Going next end (suc h) (at v) → Going next end k (at v) → ¬ Going next end (suc k) (at v) → h ≡ k
    same_hops h k g ng f nf =
        let a : ¬ (h < k) = λ x. ng (going_le (at v) (suc h) k x f) in
        let b : ¬ (k < h) = λ x. nf (going_le (at v) (suc k) h x g) in
        omega arith

    stops_out : (l h w : ℕ) → after next end h (at v) ≡ at w → move next end (at w) ≡ out l → ¬ Going next end (suc h) (at v)
    stops_out l h = stops h (out l) (λ w e. clash cc)

    stops_lost : (u h w : ℕ) → after next end h (at v) ≡ at w → move next end (at w) ≡ lost u → ¬ Going next end (suc h) (at v)
    stops_lost u h = stops h (lost u) (λ w e. clash cc)

    pub one_fate : (f g : Fate) → IsFate next end v f → IsFate next end v g → f ≡ g
    unfolding IsFate
    one_fate (Out l h) (Out m k) a b =
        let e = same_hops h k (a.0, a.1) (stops_out l h _ a.1 a.2) (b.0, b.1) (stops_out m k _ b.1 b.2) in
        cc (ap (λ i. after next end i (at v)) e, a.1, a.2, b.1, b.2)
    one_fate (Out l h) (Lost u k) a b =
        let e = same_hops h k (a.0, a.1) (stops_out l h _ a.1 a.2) (u, b.0) (stops_lost u k _ b.0 b.1) in
        cc (ap (λ i. after next end i (at v)) e, a.1, a.2, b.0, b.1)
    one_fate (Out l h) Round a b = absurd (stops_out l h _ a.1 a.2 (b (suc h)))
    one_fate (Lost u h) (Out m k) a b =
        let e = same_hops h k (u, a.0) (stops_lost u h _ a.0 a.1) (b.0, b.1) (stops_out m k _ b.1 b.2) in
        cc (ap (λ i. after next end i (at v)) e, a.0, a.1, b.1, b.2)
    one_fate (Lost u h) (Lost w k) a b =
        let e = same_hops h k (u, a.0) (stops_lost u h _ a.0 a.1) (w, b.0) (stops_lost w k _ b.0 b.1) in
        cc (ap (λ i. after next end i (at v)) e, a.0, b.0)
    one_fate (Lost u h) Round a b = absurd (stops_lost u h _ a.0 a.1 (b (suc h)))
    one_fate Round (Out m k) a b = absurd (stops_out m k _ b.1 b.2 (a (suc k)))
    one_fate Round (Lost w k) a b = absurd (stops_lost w k _ b.0 b.1 (a (suc k)))
    one_fate Round Round a b = refl

  -- the hops of a fate among n nodes are fewer than n
  module _ (n : ℕ) (closed : Closed next end n) (v : ℕ) (below-n : v < n) where
    few : (h : ℕ) → Going next end h (at v) → ¬ Going next end (suc h) (at v) → h < n
    few h g ng =
        let f : ¬ (n ≤ h) = λ le. ng (never n closed v below-n (going_le (at v) n h le g) (suc h)) in
        omega arith

    pub few_out : (l h : ℕ) → IsFate next end v (Out l h) → h < n
    unfolding IsFate
    few_out l h a = few h (a.0, a.1) (stops_out v l h a.0 a.1 a.2)

    pub few_lost : (w h : ℕ) → IsFate next end v (Lost w h) → h < n
    unfolding IsFate
    few_lost w h a = few h (w, a.0) (stops_lost v w h w a.0 a.1)
