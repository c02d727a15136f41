-- The path's blocks and edges: what `path_blocks` and `path_edges` leave in the lent arrays is what Path defines over lists. By the laws of loops and of `set`.
use Prim.Native.Nat.{ℕ, zero, suc, ◌+◌, ◌-◌, ◌≤◌, ◌<◌}
use mathlib.Core.Path.{◌≡◌, refl, sym, ◌∙◌, ap, subst}
use mathlib.Core.Bool.{Bool, true, false, cond, not, ◌&&◌}
use mathlib.Core.List.{List, [], ◌∷◌, ◌++◌}
use native.Mathlib.Omega.{arith}
use native.Mathlib.Decide.{ℕ_discrete}
use borrow.Author.Tests.{eq-eqb, ne_eqb}
use lib.Dec.{eqb}
use lib.ListN.{length, get_or, set, replicate, take, length-set, length-replicate, get_or-replicate}
use lib.Seq.{get_or-set_same, get_or-set_other}
use Rattle.std.proofs.lemmas.List.Sums.{sum_by-set, sum_by_push}
use Rattle.std.proofs.lemmas.List.{length-append, get_or_append_left, get_or_at, get_or_default, length-take-le, get_or-take}
use Rattle.std.specs.Prelude.{Option, Some, None}
use Rattle.std.proofs.lemmas.Option.{same_Some}
use Rattle.arith.specs.Flow.{Turn, go, stop, turns, loop}
use Rattle.arith.specs.FlowLaws.{turns_more, then-go, then-stop, loop-none, loop-more, loop-stop, loop-end, cond_yes}
use Rattle.rows.specs.Region.{tab-at}
use Rattle.solves.specs.declared.order.Ends.{Ends}
use Rattle.solves.specs.declared.order.NoPath.{NoPath}
use Rattle.solves.specs.declared.order.RowBlock.{RowBlock}
use Rattle.solves.specs.Path.{index, no_block, block_at, on_pair, to_row, note_row, path_blocks}
use Rattle.solves.specs.Path.{no_ends, full_ends, ends_at, with_block, add_edge, block_edges, path_edges}
use Rattle.solves.specs.Answer.{left_as}
use Rattle.solves.specs.declared.joined.Rows.{Rows}
use Rattle.solves.specs.View.{list_of_first, count_of}
use Rattle.solves.specs.PathView.{Bodies, size_of, rows_of, BlockIn, Blocked, Noted, Linked, EndsIn, Linking}

-- an element of the first n
pub list_at : (l : List ℕ) (n k : ℕ) → k < n → get_or l k 0 ≡ index (list_of_first l n) k
list_at l n k h = sym (tab-at n (λ j. get_or l j 0) 0 k h)

-- ---- path_blocks
-- a write among the first n
set-take : {A : Type 0} (xs : List A) (n i : ℕ) (y : A) → take n (set xs i y) ≡ set (take n xs) i y
set-take xs zero i y = refl
set-take [] (suc n) i y = refl
set-take (x ∷ xs) (suc n) zero y = refl
set-take (x ∷ xs) (suc n) (suc i) y = ap (λ l. x ∷ l) (set-take xs n i y)

-- `note_row` where row i ends the last of m blocks
row_same : {x y m : ℕ} (i : ℕ) (blocks : List RowBlock) → length blocks ≡ m → 0 < m → (block_at blocks (m - 1)).a ≡ x → (block_at blocks (m - 1)).b ≡ y
    → set blocks (m - 1) (to_row i (block_at blocks (m - 1))) ≡ note_row x y i blocks
unfolding note_row
row_same {x} {y} {m} i blocks size h ea eb =
    ap (λ (m : ℕ). set blocks (m - 1) (to_row i (block_at blocks (m - 1)))) (sym size) ∙ cond_yes _ _ test
  where
    last : block_at blocks (length blocks - 1) ≡ block_at blocks (m - 1)
    last = ap (λ (m : ℕ). block_at blocks (m - 1)) size

    test : not (eqb (length blocks) 0) && on_pair x y (block_at blocks (length blocks - 1)) ≡ true
    test = λ j. not (ne_eqb (length blocks) 0 (λ e. omega arith) j)
        && (eq-eqb _ x (ap (λ (b : RowBlock). b.a) last ∙ ea) j && eq-eqb _ y (ap (λ (b : RowBlock). b.b) last ∙ eb) j)

-- the same in a table
pub row_ends : (table : List RowBlock) {number : ℕ} {x y : ℕ} (i : ℕ) → 0 < number → number ≤ length table → (block_at table (number - 1)).a ≡ x
    → (block_at table (number - 1)).b ≡ y
    → Noted (set table (number - 1) (to_row i (block_at table (number - 1)))) number (note_row x y i (take number table))
row_ends table {number} {x} {y} i h m ea eb = record {
  number_is = sym (length-take-le number _ (rw length-set m)) ∙ ap length same;
  is = same;
}
  where
    last : block_at (take number table) (number - 1) ≡ block_at table (number - 1)
    last = get_or-take number table (number - 1) no_block (omega arith)

    same : take number (set table (number - 1) (to_row i (block_at table (number - 1)))) ≡ note_row x y i (take number table)
    same = set-take table number (number - 1) _ ∙ ap (λ (b : RowBlock). set (take number table) (number - 1) (to_row i b)) (sym last)
        ∙ row_same i (take number table) (length-take-le number table m) h (ap (λ (b : RowBlock). b.a) last ∙ ea) (ap (λ (b : RowBlock). b.b) last ∙ eb)

-- a block of row i alone
abbrev one-row : ℕ → ℕ → ℕ → RowBlock
one-row x y i = record { a = x; b = y; start = i; end = i + 1 }

-- when it is at row i
pub record BlocksSo (i : ℕ) (blocks : List RowBlock) : Type 0 where
  pub few : length blocks ≤ i
  pub total : rows_of blocks ≡ i
  pub each : (k : ℕ) → k < length blocks → BlockIn i (block_at blocks k)
  pub last : 0 < length blocks → (block_at blocks (length blocks - 1)).end ≡ i

so_none : BlocksSo 0 []
so_none = record { few = omega arith; total = refl; each = λ k h. absurd (omega arith); last = λ h. absurd (omega arith) }

module _ {i : ℕ} {blocks : List RowBlock} (so : BlocksSo i blocks) where
  abbrev final : RowBlock
  final = block_at blocks (length blocks - 1)

  abbrev longer : RowBlock
  longer = record { a = final.a; b = final.b; start = final.start; end = i + 1 }

  wider : {block : RowBlock} → BlockIn i block → BlockIn (i + 1) block
  wider b = record { rising = b.rising; inside = omega (arith, b.inside); a-there = b.a-there; b_there = b.b_there }

  ended : 0 < length blocks → BlocksSo (i + 1) (set blocks (length blocks - 1) longer)
  ended h = record {
    few = omega (arith, length-set blocks (length blocks - 1) longer);
    total = omega (arith, sum_by-set size_of blocks (length blocks - 1) longer no_block here, so.total, old.rising, so.last h);
    each = λ k q. by k (omega (arith, length-set blocks (length blocks - 1) longer)) (ℕ_discrete k (length blocks - 1));
    last = λ q. ap (λ (b : RowBlock). b.end)
        (ap (λ (m : ℕ). block_at (set blocks (length blocks - 1) longer) (m - 1)) (length-set blocks (length blocks - 1) longer)
        ∙ get_or-set_same blocks (length blocks - 1) longer no_block here);
  }
    where
      here : length blocks - 1 < length blocks
      here = omega arith

      old : BlockIn i final
      old = so.each (length blocks - 1) here

      by : (k : ℕ) → k < length blocks → Dec (k ≡ length blocks - 1) → BlockIn (i + 1) (block_at (set blocks (length blocks - 1) longer) k)
      by k q (yes e) = rw e (rw (get_or-set_same blocks (length blocks - 1) longer no_block here) (record {
        rising = omega (arith, old.rising, old.inside);
        inside = omega arith;
        a-there = old.a-there;
        b_there = old.b_there;
      }))
      by k q (no e) = rw (get_or-set_other blocks (length blocks - 1) k longer no_block e) (wider (so.each k q))

  begun : (x y : ℕ) → x < 16 → y < 16 → BlocksSo (i + 1) (blocks ++ (one-row x y i ∷ []))
  begun x y hx hy = record {
    few = omega (arith, longer-by, so.few);
    total = omega (arith, sum_by_push size_of blocks (one-row x y i), so.total);
    each = λ k q. by k (ℕ_discrete k (length blocks)) (omega (arith, longer-by));
    last = λ q. ap (λ (b : RowBlock). b.end)
        (ap (λ (m : ℕ). block_at (blocks ++ (one-row x y i ∷ [])) (m - 1)) longer-by
        ∙ ap (λ (m : ℕ). block_at (blocks ++ (one-row x y i ∷ [])) m) (omega arith)
        ∙ get_or_at blocks (one-row x y i) [] no_block (length blocks) refl);
  }
    where
      longer-by : length (blocks ++ (one-row x y i ∷ [])) ≡ length blocks + 1
      longer-by = length-append blocks (one-row x y i ∷ [])

      by : (k : ℕ) → Dec (k ≡ length blocks) → k < length blocks + 1 → BlockIn (i + 1) (block_at (blocks ++ (one-row x y i ∷ [])) k)
      by k (yes e) q = rw e (rw (get_or_at blocks (one-row x y i) [] no_block (length blocks) refl)
          (record { rising = omega arith; inside = omega arith; a-there = hx; b_there = hy }))
      by k (no e) q = rw (get_or_append_left blocks (one-row x y i ∷ []) no_block k (omega arith)) (wider (so.each k (omega arith)))

  so_more : (x y : ℕ) → x < 16 → y < 16 → BlocksSo (i + 1) (note_row x y i blocks)
  unfolding note_row
  so_more x y hx hy = by (eqb (length blocks) 0) refl (on_pair x y final)
    where
      by : (none : Bool) → eqb (length blocks) 0 ≡ none → (same : Bool)
          → BlocksSo (i + 1) (cond (not none && same) (set blocks (length blocks - 1) longer) (blocks ++ (one-row x y i ∷ [])))
      by true e same = begun x y hx hy
      by false e false = begun x y hx hy
      by false e true = ended (some (length blocks) e)
        where
          some : (n : ℕ) → eqb n 0 ≡ false → 0 < n
          some zero f = cc
          some (suc n) f = omega arith

-- the rows of a table are on bodies below 16
pub few-a : (rows : Rows) → Bodies rows.a.now (count_of rows)
few-a rows k h = omega (arith, rows.a_there k h, rows.few_bodies)

pub few_b : (rows : Rows) → Bodies rows.b.now (count_of rows)
few_b rows k h = omega (arith, rows.b_there k h, rows.few_bodies)

-- a table at row i
pub record BlocksAt (a b : List ℕ) (i : ℕ) (table : List RowBlock) (number : ℕ) : Type 0 where
  pub noted : Noted table number (path_blocks a b i)
  pub so : BlocksSo i (path_blocks a b i)

pub blocks_none : (a b : List ℕ) (table : List RowBlock) → BlocksAt a b 0 table 0
unfolding path_blocks turns
blocks_none a b table = record { noted = record { number_is = refl; is = refl }; so = so_none }

module _ (ia ib : List ℕ) {n : ℕ} (pa : Bodies ia n) (pb : Bodies ib n) {i : ℕ} {table : List RowBlock} {number : ℕ}
    (at : BlocksAt (list_of_first ia n) (list_of_first ib n) i table number) where
  pub blocks_few : number ≤ i
  blocks_few = omega (arith, at.noted.number_is, at.so.few)

  pub blocks_more : i < n → {after : List RowBlock} {r : ℕ} → Noted after r (note_row (get_or ia i 0) (get_or ib i 0) i (take number table))
      → BlocksAt (list_of_first ia n) (list_of_first ib n) (i + 1) after r
  unfolding path_blocks
  blocks_more h {after} {r} e = record {
    noted = record { number_is = e.number_is ∙ ap length next; is = e.is ∙ next };
    so = subst (BlocksSo (i + 1)) (ap (note_row (get_or ia i 0) (get_or ib i 0) i) (sym at.noted.is) ∙ next)
        (so_more at.so (get_or ia i 0) (get_or ib i 0) (pa i h) (pb i h));
  }
    where
      next : note_row (get_or ia i 0) (get_or ib i 0) i (take number table) ≡ path_blocks (list_of_first ia n) (list_of_first ib n) (i + 1)
      next = (λ j. note_row (list_at ia n i h j) (list_at ib n i h j) i (at.noted.is j)) ∙ turns_more _ i [] refl

  -- the blocks of n rows
  pub blocks_made : i ≤ n → n ≤ i → n ≤ 96 → (Noted table number (path_blocks (list_of_first ia n) (list_of_first ib n) n))
      × (Blocked (take number table)) × (rows_of (take number table) ≡ n)
  blocks_made h l m =
      let same : i ≡ n = omega arith in
      let so : BlocksSo n (take number table) = subst (BlocksSo n) (sym at.noted.is)
      (subst (λ (k : ℕ). BlocksSo k (path_blocks (list_of_first ia n) (list_of_first ib n) i)) same at.so) in (
        subst (λ (k : ℕ). Noted table number (path_blocks (list_of_first ia n) (list_of_first ib n) k)) same at.noted,
        record { most = omega (arith, so.total); few = omega (arith, so.total, so.few); each = λ k q. rw so.total (so.each k q) },
        so.total,
      )

-- ---- edges
-- ends stay linked
linked-none : {m : ℕ} → EndsIn m no_ends
linked-none = record { first = λ k e. cc; second = λ k e. cc }

linked-block : {m block : ℕ} → block < m → Linked m (Some block)
linked-block h k e = let same : k ≡ _ = sym (same_Some _ _ e) in omega arith

go-is : {x y : Ends} → ◌≡◌ {A = Turn Ends NoPath} (go x) (go y) → x ≡ y
go-is e = cc

ends-linked : {m block : ℕ} (ends : Ends) {t : Ends} → block < m → EndsIn m ends → go t ≡ with_block ends block → EndsIn m t
unfolding with_block
ends-linked {m} {block} ends {t} h l e = by ends.first ends.second l.first l.second e
  where
    by : (x y : Option ℕ) → Linked m x → Linked m y → ◌≡◌ {A = Turn Ends NoPath} (go t) (with_block (record { first = x; second = y }) block) → EndsIn m t
    by None y p q f = subst (EndsIn m) (sym (go-is f)) (record { first = linked-block h; second = q })
    by (Some x) None p q f = subst (EndsIn m) (sym (go-is f)) (record { first = p; second = linked-block h })
    by (Some x) (Some y) p q f = cc

links-none : {m : ℕ} → Linking m (replicate 16 no_ends)
links-none {m} = record {
  size = length-replicate 16 no_ends;
  each = λ body h. subst (EndsIn m) (sym (get_or-replicate 16 body no_ends full_ends h)) linked-none;
}

links-set : {m : ℕ} {edges : List Ends} {ends : Ends} (body : ℕ) → body < 16 → EndsIn m ends → Linking m edges → Linking m (set edges body ends)
links-set {m} {edges} {ends} body h l k = record { size = length-set edges body ends ∙ k.size; each = λ i r. by i r (ℕ_discrete i body) }
  where
    by : (i : ℕ) → i < 16 → Dec (i ≡ body) → EndsIn m (ends_at (set edges body ends) i)
    by i r (yes e) = rw e (rw (get_or-set_same edges body ends full_ends (omega (arith, k.size))) l)
    by i r (no e) = rw (get_or-set_other edges body i ends full_ends e) (k.each i r)

-- after k turns
pub record EdgesSo (blocks : List RowBlock) (k : ℕ) (edges : List Ends) : Type 0 where
  pub is : go edges ≡ loop k (block_edges blocks) (replicate 16 no_ends)
  pub links : Linking (length blocks) edges

pub edges_none : {blocks : List RowBlock} → EdgesSo blocks 0 (replicate 16 no_ends)
edges_none {blocks} = record { is = loop-none (block_edges blocks) _; links = links-none }

-- what a call left, in the case of its answer
module _ {A : Type 0} {r : Turn (Unit {0}) NoPath} (x : A) {d : Turn A NoPath} where
  pub left-go : {u : Unit {0}} → r ≡ go u → left_as r x ≡ d → go x ≡ d
  left-go h e = sym (ap (λ (r : Turn (Unit {0}) NoPath). left_as r x) h) ∙ e

  pub left-stop : {e : NoPath} → r ≡ stop e → left_as r x ≡ d → stop e ≡ d
  left-stop h f = sym (ap (λ (r : Turn (Unit {0}) NoPath). left_as r x) h) ∙ f

-- an array's read of a body that there is, as the definition has it
read-ends : {m : ℕ} (edges : List Ends) (body : ℕ) → Linking m edges → body < 16 → get_or edges body no_ends ≡ ends_at edges body
read-ends edges body k h = get_or_default edges body no_ends full_ends (omega (arith, k.size))

-- what a turn does, from what its two calls did
module _ {blocks : List RowBlock} (pre : Blocked blocks) {k : ℕ} {edges : List Ends} (so : EdgesSo blocks k edges) (h : k < length blocks) where
  abbrev block : RowBlock
  block = block_at blocks k

  there : BlockIn (rows_of blocks) block
  there = pre.each k h

  -- a call of `add` on a body, as the definition names its ends
  called : (edges : List Ends) (body : ℕ) → Linking (length blocks) edges → body < 16 → {d : Turn Ends NoPath}
      → d ≡ with_block (get_or edges body no_ends) k → d ≡ with_block (ends_at edges body) k
  called edges body l q e = e ∙ ap (λ (x : Ends). with_block x k) (read-ends edges body l q)

  lost-a : (e : NoPath) → stop e ≡ with_block (get_or edges block.a no_ends) k → stop e ≡ block_edges blocks k edges
  unfolding block_edges add_edge
  lost-a e f = then-stop _ (then-stop _ (called edges block.a so.links there.a-there f))

  pub edges-lost-a : (e : NoPath) → stop e ≡ with_block (get_or edges block.a no_ends) k → stop e ≡ path_edges blocks
  unfolding path_edges
  edges-lost-a e f = loop-stop (block_edges blocks) _ (length blocks) h so.is (lost-a e f)

  module _ {a : Ends} (ea : go a ≡ with_block (get_or edges block.a no_ends) k) where
    abbrev edges₁ : List Ends
    edges₁ = set edges block.a a

    ea-there : go a ≡ with_block (ends_at edges block.a) k
    ea-there = called edges block.a so.links there.a-there ea

    links₁ : Linking (length blocks) edges₁
    links₁ = links-set block.a there.a-there (ends-linked _ h (so.links.each block.a there.a-there) ea-there) so.links

    to-b : {d : Turn (List Ends) NoPath} → d ≡ add_edge block.b k edges₁ → d ≡ block_edges blocks k edges
    unfolding block_edges add_edge
    to-b f = f ∙ then-go (add_edge block.b k) (then-go (λ ends. go (set edges block.a ends)) ea-there)

    lost-b : (e : NoPath) → stop e ≡ with_block (get_or edges₁ block.b no_ends) k → stop e ≡ add_edge block.b k edges₁
    unfolding add_edge
    lost-b e f = then-stop _ (called edges₁ block.b links₁ there.b_there f)

    pub edges-lost-b : (e : NoPath) → stop e ≡ with_block (get_or edges₁ block.b no_ends) k → stop e ≡ path_edges blocks
    unfolding path_edges
    edges-lost-b e f = loop-stop (block_edges blocks) _ (length blocks) h so.is (to-b (lost-b e f))

    module _ {b : Ends} (eb : go b ≡ with_block (get_or edges₁ block.b no_ends) k) where
      eb-there : go b ≡ with_block (ends_at edges₁ block.b) k
      eb-there = called edges₁ block.b links₁ there.b_there eb

      added : go (set edges₁ block.b b) ≡ add_edge block.b k edges₁
      unfolding add_edge
      added = then-go (λ ends. go (set edges₁ block.b ends)) eb-there

      pub edges_more : EdgesSo blocks (k + 1) (set edges₁ block.b b)
      edges_more = record {
        is = loop-more (block_edges blocks) _ so.is (to-b added);
        links = links-set block.b there.b_there (ends-linked _ h (links₁.each block.b there.b_there) eb-there) links₁;
      }

pub edges-end : {blocks : List RowBlock} {k : ℕ} {edges : List Ends} → EdgesSo blocks k edges → k ≤ length blocks → length blocks ≤ k
    → (go edges ≡ path_edges blocks) × (Linking (length blocks) edges)
unfolding path_edges
edges-end {blocks} so a b = (loop-end (block_edges blocks) _ a b so.is, so.links)
