-- Atoms carried along links, many at once: what a label says of one move, which sets of atoms stand at the nodes of the walks from a node,
-- and which of the atoms are out and which are lost. Assumes nothing.
use mathlib.Core.Path.{◌≡◌, refl, sym, ap, ap₂, ◌∙◌}
use mathlib.Core.Logic.{◌⊎◌, inl, inr}
use mathlib.Core.Bool.{Bool, true, false, ◌&&◌, not, true≢false}
use mathlib.Core.List.{List}
use mathlib.Core.Option.{Option, none, some}
use Prim.Native.Nat.{ℕ, ◌/◌, ◌%◌, ◌≤◌, ◌<◌}
use native.Mathlib.Decide.{dec_lt}
use native.Mathlib.Omega.{arith}
use lib.Dec.{ltb, eqb}
use borrow.Author.Tests.{eqb-true, eqb-false, eq-eqb, lt-ltb, le-ltb, ltb-true, ltb-false, not-true}
use Rattle.meaning.specs.declared.Fate.{Fate}
use Rattle.meaning.specs.declared.Fate.TheVariants.{Out, Lost, Round}
use Rattle.meaning.specs.Search.{pick, any_below}
use Rattle.meaning.specs.Hall.{State, source_of}
use Rattle.meaning.specs.Labels.{on}
use Rattle.meaning.specs.Walk.{at, move, fate_in}
use Rattle.meaning.specs.Questions.{is_out, is_lost}
use Rattle.meaning.proofs.walk.Walks.{Closed, IsFate, below, fate_is, one_fate, few_out, few_lost}
use Rattle.meaning.proofs.walk.Moves.{goes_to, leaves_by_lem, lost_at_lem}
use Rattle.meaning.proofs.base.Search.{any_true, any_some, and_both}
use Rattle.lent.specs.Owners.{owner_in, via, via_link, next_in, end_in, Whole}
use Rattle.lent.proofs.Labelled.{starts, won, via_won, source_small, ends_in}
use Rattle.lent.specs.Sets.{rows, source_in, Taken, Carries, Reached, Within, leaves_by, goes_on, lost_at}
use Rattle.meaning.proofs.base.Order.{clash}

-- ---- labels and moves

-- the link that an owner names, by both its forms
via_some : (e l : ℕ) → l < 64 → via e ≡ l → via_link e ≡ some l
unfolding via via_link
via_some e l h q = go (eqb e 0) q
  where
    go : (t : Bool) → pick t 64 (e / 512 % 64) ≡ l → pick t none (some (e / 512 % 64)) ≡ some l
    go true r = absurd (omega arith)
    go false r = ap some r

some_via : (e l : ℕ) → via_link e ≡ some l → (e ≡ 0 → ⊥) × (via e ≡ l)
unfolding via via_link
some_via e l q = go (eqb e 0) refl q
  where
    go : (t : Bool) → eqb e 0 ≡ t → pick t none (some (e / 512 % 64)) ≡ some l → (e ≡ 0 → ⊥) × (pick t 64 (e / 512 % 64) ≡ l)
    go true r f = clash cc
    go false r f = (eqb-false e 0 r, cc)

-- THE LAW: in a box in order the labels say which link a packet takes
pub carries_of : (m : State) (label owner : List ℕ) → Whole m label owner → Carries m.plan.link label owner m.plan.links m.plan.nodes
unfolding next_in source_of
carries_of m label owner W = record {
  few = W.sound.laid.small;
  source = λ l h. source_small m W.sound l;
  takes = λ l k hl hk e.
      let h : l < 64 = omega (arith, W.sound.laid.few) in
      let s = source_small m W.sound l in
      let q = eqb-true (via (owner_in owner k (source_in m.plan.link l))) l (sym (W.agrees.bits l k h hk) ∙ e) in
      rw (lt-ltb (source_in m.plan.link l) 16 s) (via_some (owner_in owner k (source_in m.plan.link l)) l h q);
  taken = λ k u l hk e. go k u l hk (dec_lt u 16) e;
}
  where
    named : (k u l : ℕ) → k < 512 → u < 16 → (owner_in owner k u ≡ 0 → ⊥) → via (owner_in owner k u) ≡ l → Taken m.plan.link label m.plan.links m.plan.nodes k u l
    named k u l hk hu n q =
        let o = won m W.sound owner W.owned k u hk hu n in
        let d : l < m.plan.links = omega (arith, sym q, via_won m u (owner_in owner k u) o, W.sound.named o.rule o.within o.alive) in
        let s : source_in m.plan.link l ≡ u = rw q at ((starts m label owner W).here k u hk hu n) in
        record {
          declared = d;
          here = s;
          has = W.agrees.bits l k (omega (arith, W.sound.laid.few)) hk ∙ ap (λ (x : ℕ). eqb (via (owner_in owner k x)) l) s ∙ eq-eqb (via (owner_in owner k u)) l q;
          inside = rw q at (ends_in m label owner W k u hk hu n).1;
        }

    go : (k u l : ℕ) → k < 512 → Dec (u < 16) → pick (ltb u 16) (via_link (owner_in owner k u)) none ≡ some l → Taken m.plan.link label m.plan.links m.plan.nodes k u l
    go k u l hk (yes h) e =
        let f = some_via (owner_in owner k u) l (rw (lt-ltb u 16 h) at e) in
        named k u l hk h f.0 f.1
    go k u l hk (no h) e =
        let f : none ≡ some l = rw (le-ltb u 16 (omega arith)) at e in
        clash cc

-- ---- the fates by these sets

-- tests that hold together are the same
same_test : (a b : Bool) → (a ≡ true → b ≡ true) → (b ≡ true → a ≡ true) → a ≡ b
same_test true b f g = sym (f refl)
same_test false true f g = g refl
same_test false false f g = refl

from_port : (e : ℕ) → e / 256 ≡ 1 → (256 ≤ e) × (e < 512)
from_port e h = (omega arith, omega arith)

row : (u : ℕ) → u < 16 → u < rows
row u h = omega arith

module _ {link label owner : List ℕ} {links nodes : ℕ} (C : Carries link label owner links nodes) (k : ℕ) (hk : k < 512) where
  abbrev next : ℕ → Option ℕ
  next = next_in owner k

  abbrev end : ℕ → ℕ
  end = end_in link

  closed : Closed next end nodes
  closed v w h e =
      let g = (goes_to next end v w).0 e in
      omega (arith, g.2, (C.taken k v g.0 hk g.1).inside (omega (arith, g.2, g.3)))

  -- a link from u that has the atom is the one that is taken at u
  at_source : (u l : ℕ) → l < links → source_in link l ≡ u → on label l k ≡ true → next u ≡ some l
  at_source u l hl s e = ap next (sym s) ∙ C.takes l k hl hk e

  -- one move to a node goes along a link
  pub moved_by : (u w : ℕ) → move next end (at u) ≡ at w → (l : ℕ) × Taken link label links nodes k u l × (end l ≡ w) × (w < 16)
  moved_by u w e =
      let g = (goes_to next end u w).0 e in
      let t = C.taken k u g.0 hk g.1 in
      (g.0, t, g.2, omega (arith, C.few, t.inside (omega (arith, g.2, g.3)), g.2))

  -- and an atom on a link to a node moves along it
  pub moves_on : (l : ℕ) → l < links → on label l k ≡ true → end l < 16 → move next end (at (source_in link l)) ≡ at (end l)
  moves_on l hl e h = (goes_to next end (source_in link l) (end l)).1 (l, C.takes l k hl hk e, refl, omega arith)

  module _ {v : ℕ} {stand : List ℕ} (hv : v < nodes) (R : Reached link owner v stand) (I : Within link owner v 16 stand) where
    f : Fate
    f = fate_in next end nodes 0 v

    fate_so : (g : Fate) → IsFate next end v g → f ≡ g
    unfolding f
    fate_so g i = one_fate next end v f g (fate_is next end nodes closed v hv) i

    -- THE LAW of out: the atom leaves by some link
    pub out_is : is_out (fate_in next end nodes 0 v) ≡ any_below links (leaves_by link label stand k)
    unfolding is_out leaves_by f IsFate
    out_is = same_test _ _ (there f (fate_is next end nodes closed v hv)) back
      where
        there : (g : Fate) → IsFate next end v g → is_out g ≡ true → any_below links (leaves_by link label stand k) ≡ true
        there (Out l h) i e =
            let b = (leaves_by_lem next end i.0 l).0 i.2 in
            let t = C.taken k i.0 l hk b.0 in
            let s = I.stood h k i.0 (omega (arith, C.few, few_out next end nodes closed v hv l h i)) hk i.1 in
            any_true _ links l t.declared (ap₂ ◌&&◌ (eq-eqb (end l / 256) 1 (omega (arith, b.1, b.2))) (ap₂ ◌&&◌ (ap (λ (x : ℕ). on stand x k) t.here ∙ s) t.has))
        there (Lost w h) i e = absurd (true≢false (sym e))
        there Round i e = absurd (true≢false (sym e))

        back : any_below links (leaves_by link label stand k) ≡ true → is_out f ≡ true
        back e =
            let r = any_some _ links e in
            let b = and_both _ _ r.2 in
            let p : end r.0 / 256 ≡ 1 = eqb-true _ _ b.0 in
            let q = and_both _ _ b.1 in
            let u = source_in link r.0 in
            let c = R.comes u k (row u (C.source r.0 r.1)) hk q.0 in
            let m = (leaves_by_lem next end u r.0).1 (C.takes r.0 k r.1 hk q.1, (from_port (end r.0) p).0, (from_port (end r.0) p).1) in
            ap is_out (fate_so (Out r.0 c.1.0) (u, c.1.1, m))

    -- THE LAW of lost: the atom comes to some node where no link takes it on
    pub lost_is : is_lost (fate_in next end nodes 0 v) ≡ any_below 16 (lost_at link label links stand k)
    unfolding is_lost lost_at goes_on f IsFate
    lost_is = same_test _ _ (there f (fate_is next end nodes closed v hv)) back
      where
        -- no link takes a packet on that a move loses
        stays : (w : ℕ) → (next w ≡ none) ⊎ ((l : ℕ) × (next w ≡ some l) × (512 ≤ end l)) → (t : Bool) → any_below links (goes_on link label w k) ≡ t → not t ≡ true
        stays w x false e = refl
        stays w x true e =
            let r = any_some _ links e in
            let b = and_both _ _ r.2 in
            let q = and_both _ _ b.1 in
            let s = at_source w r.0 r.1 (eqb-true _ _ q.0) q.1 in
            absurd (differ x r.0 s (ltb-true (end r.0) 512 b.0))
          where
            differ : (next w ≡ none) ⊎ ((l : ℕ) × (next w ≡ some l) × (512 ≤ end l)) → (l : ℕ) → next w ≡ some l → end l < 512 → ⊥
            differ (inl n) l s h = clash cc
            differ (inr (j, n, g)) l s h = let z : j ≡ l = cc in omega (arith, ap end z)

        there : (g : Fate) → IsFate next end v g → is_lost g ≡ true → any_below 16 (lost_at link label links stand k) ≡ true
        there (Out l h) i e = absurd (true≢false (sym e))
        there (Lost w h) i e =
            let b = (lost_at_lem next end w).0 i.1 in
            let s = I.stood h k w (omega (arith, C.few, few_lost next end nodes closed v hv w h i)) hk i.0 in
            any_true _ 16 w (omega (arith, C.few, below next end nodes closed v hv h w i.0)) (ap₂ ◌&&◌ s (stays w b _ refl))
        there Round i e = absurd (true≢false (sym e))

        -- where no link takes it on, a move loses it
        ends : (u : ℕ) (o : Option ℕ) → next u ≡ o → any_below links (goes_on link label u k) ≡ false → (next u ≡ none) ⊎ ((l : ℕ) × (next u ≡ some l) × (512 ≤ end l))
        ends u none e n = inl e
        ends u (some l) e n = inr (l, e, far (ltb (end l) 512) refl)
          where
            far : (t : Bool) → ltb (end l) 512 ≡ t → 512 ≤ end l
            far false q = ltb-false (end l) 512 q
            far true q =
                let t = C.taken k u l hk e in
                absurd (true≢false (sym (any_true (goes_on link label u k) links l t.declared (ap₂ ◌&&◌ q (ap₂ ◌&&◌ (eq-eqb (source_in link l) u t.here) t.has))) ∙ n))

        back : any_below 16 (lost_at link label links stand k) ≡ true → is_lost f ≡ true
        back e =
            let r = any_some _ 16 e in
            let b = and_both _ _ r.2 in
            let c = R.comes r.0 k (omega (arith, r.1)) hk b.0 in
            let m = (lost_at_lem next end r.0).1 (ends r.0 (next r.0) refl (not-true _ b.1)) in
            ap is_lost (fate_so (Lost r.0 c.1.0) (c.1.1, m))
