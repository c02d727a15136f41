-- The path's walks: what `visit`, `walk`, `walks` and `path_order` leave is what Path defines over lists. By the laws of loops.
use Prim.Native.Nat.{ℕ, zero, suc, ◌+◌, ◌-◌, ◌≤◌, ◌<◌}
use mathlib.Core.Path.{◌≡◌, refl, sym, ◌∙◌, ap, subst}
use mathlib.Core.Bool.{Bool, true, false, cond, not}
use mathlib.Core.List.{List, [], ◌∷◌, ◌++◌}
use native.Mathlib.Omega.{arith}
use native.Mathlib.Decide.{dec_lt}
use borrow.Author.Tests.{eq-eqb, ne_eqb}
use borrow.Rule.Slice.PartMut.{put_mid, same_len_mid}
use lib.Dec.{eqb}
use lib.ListN.{length, get_or, set, replicate}
use Rattle.std.specs.Prelude.{Option, Some, None}
use Rattle.std.proofs.lemmas.List.Sums.{sum_by-cons}
use Rattle.std.proofs.lemmas.List.{places, length-append, get_or_append_left, get_or-append_right}
use Rattle.arith.specs.Flow.{Turn, go, stop, and_then, ◌>>=◌, loop, return_if}
use Rattle.arith.specs.FlowLaws.{then-go, then-stop, loop-none, loop-more, loop-stop, loop-end, cond_yes, cond_no}
use Rattle.rows.specs.Region.{tab-length, tab-at, tab-append, tab-ext}
use Rattle.solves.specs.declared.order.Ends.{Ends}
use Rattle.solves.specs.declared.order.NoPath.{NoPath}
use Rattle.solves.specs.declared.order.RowBlock.{RowBlock}
use Rattle.solves.specs.declared.order.Seen.{Seen as Searched}
use Rattle.solves.specs.Path.{declined, block_at, none_seen, Seen, Walk, run, visit, other_block, neighbor, follows, next_block}
use Rattle.solves.specs.Path.{next_at, turn_to, walk_turn, walked, walk, walk_from, is_end, path_walks, path_order, path_edges, path_blocks}
use Rattle.solves.specs.View.{list_of_first}
use Rattle.solves.specs.PathView.{size_of, rows_of, BlockIn, Blocked, Linked, EndsIn, Sound, Appended, Ordered}
use Rattle.solves.specs.OrderView.{seen_of, room, Within, Free, Walked}
use Rattle.solves.specs.DoesLaws.{goes_on, returns-if}

-- ---- visit
-- `append`: the items, which are from..to, in the place of what stood from listed on
module _ (before items : List ℕ) (listed from to : ℕ) {k : ℕ} (ek : k ≡ to - from) (room-there : listed + (to - from) ≤ length before)
    (size : length items ≡ to - from) where
  abbrev after : List ℕ
  after = put_mid listed k before items

  before-them : (j : ℕ) → j < listed → get_or after j 0 ≡ get_or before j 0
  before-them j h = grind (arith, places)

  among_them : (j : ℕ) → j < to - from → get_or after (listed + j) 0 ≡ get_or items j 0
  among_them j h = grind (arith, places)

  behind-them : (j : ℕ) → listed + (to - from) ≤ j → get_or after j 0 ≡ get_or before j 0
  behind-them j h = grind (arith, places)

  pub append-is : ((j : ℕ) → j < to - from → get_or items j 0 ≡ from + j) → Appended before listed from to after (listed + (to - from))
  append-is each = record {
    size = same_len_mid listed k before items (grind (arith, places));
    longer = refl;
    is = tab-append listed (to - from) (λ j. get_or after j 0)
        ∙ λ i. tab-ext listed before-them i ++ tab-ext (to - from) (λ j h. among_them j h ∙ each j h) i;
    rest = behind-them;
  }

pub visit-is : (before : Searched) {rows : List ℕ} {r : ℕ} (k : ℕ) (block : RowBlock) → Appended before.rows before.listed block.start block.end rows r
    → ◌≡◌ {A = Seen} (record { order = list_of_first rows r; visited = set before.visited k true }) (visit k block (seen_of before))
unfolding visit
visit-is before k block a = λ j. record { order = a.is j; visited = set before.visited k true }

-- ---- room
-- a visit takes the block's rows away
room-set : (blocks : List RowBlock) (visited : List Bool) (c : ℕ) → c < length blocks → c < length visited → get_or visited c false ≡ false
    → room blocks (set visited c true) + size_of (block_at blocks c) ≡ room blocks visited
unfolding room
room-set [] visited c h l f = absurd (omega arith)
room-set (block ∷ blocks) [] c h l f = absurd (omega arith)
room-set (block ∷ blocks) (v ∷ visited) zero h l f =
    let e : cond v 0 (size_of block) ≡ size_of block = ap (λ (b : Bool). cond b 0 (size_of block)) f in
    omega arith
room-set (block ∷ blocks) (v ∷ visited) (suc c) h l f =
    let ih : room blocks (set visited c true) + size_of (block_at blocks c) ≡ room blocks visited = room-set blocks visited c (omega arith) (omega arith) f in
    omega arith

room-none : (blocks : List RowBlock) (n : ℕ) → room blocks (replicate n false) ≡ rows_of blocks
unfolding room
room-none [] n = refl
room-none (block ∷ blocks) zero =
    let ih : room blocks [] ≡ rows_of blocks = room-none blocks 0 in
    ap (λ (m : ℕ). size_of block + m) ih ∙ sym (sum_by-cons size_of block blocks)
room-none (block ∷ blocks) (suc n) =
    let ih : room blocks (replicate n false) ≡ rows_of blocks = room-none blocks n in
    ap (λ (m : ℕ). size_of block + m) ih ∙ sym (sum_by-cons size_of block blocks)

-- ---- walk
-- after k turns
pub record WalkSo (blocks : List RowBlock) (edges : List Ends) (start : Searched) (first k : ℕ) (seen : Searched) (current : ℕ) (previous : Option ℕ)
    : Type 0 where
  pub is : go (record { seen = seen_of seen; current = current; previous = previous })
      ≡ loop k (walk_turn blocks edges) (record { seen = seen_of start; current = first; previous = None })
  pub here : current < length blocks
  pub free : Free blocks seen

-- links of the ends, and of what follows
other-linked : {m : ℕ} (ends : Ends) (block : ℕ) → EndsIn m ends → Linked m (other_block ends block)
unfolding other_block
other-linked {m} ends block l = by ends.first l.first
  where
    at : (x : ℕ) → Linked m (Some x) → (b : Bool) → Linked m (cond b ends.second (Some x))
    at x p true = l.second
    at x p false = p

    by : (x : Option ℕ) → Linked m x → Linked m (other_block (record { first = x; second = ends.second }) block)
    by None p = p
    by (Some x) p = at x p (eqb x block)

next-linked : {m : ℕ} (x y previous : Option ℕ) → Linked m x → Linked m y → Linked m (next_block x y previous)
unfolding next_block
next-linked {m} x y previous a b = by (follows x previous) (follows y previous)
  where
    by : (p q : Bool) → Linked m (cond p x (cond q y None))
    by true q = a
    by false true = b
    by false false = λ k e. cc

module _ {blocks : List RowBlock} {edges : List Ends} (sound : Sound blocks edges) where
  next-there : {current next : ℕ} (previous : Option ℕ) → current < length blocks → next_at blocks edges current previous ≡ Some next → next < length blocks
  unfolding neighbor
  next-there {current} {next} previous h e =
      let block : BlockIn (rows_of blocks) (block_at blocks current) = sound.blocked.each current h in
      next-linked _ _ previous (other-linked _ current (sound.linking.each _ block.a-there))
      (other-linked _ current (sound.linking.each _ block.b_there)) next e

-- what is free after a visit
module _ {blocks : List RowBlock} (pre : Blocked blocks) {current : ℕ} {seen : Searched} (here : current < length blocks) (free : Free blocks seen)
    (new : get_or seen.visited current false ≡ false) where
  abbrev block : RowBlock
  block = block_at blocks current

  -- what the block takes of the room
  room-is : room blocks (set seen.visited current true) + size_of block ≡ room blocks seen.visited
  room-is = room-set blocks seen.visited current here (omega (arith, seen.whole, here, pre.few, pre.most)) new

  pub visit-fits : (current < 96) × (block.start ≤ block.end) × (seen.listed + size_of block ≤ 96)
  visit-fits = (
    omega (arith, pre.few, pre.most),
    (pre.each current here).rising,
    omega (arith, free.left, room-is),
  )

  module _ (after : Searched) (e : seen_of after ≡ visit current block (seen_of seen)) where
    order-is : (seen_of after).order ≡ (seen_of seen).order ++ run block.start block.end
    unfolding visit
    order-is = ap (λ (s : Seen). s.order) e

    visited-is : after.visited ≡ set seen.visited current true
    unfolding visit
    visited-is = ap (λ (s : Seen). s.visited) e

    longer : after.listed ≡ seen.listed + size_of block
    longer = sym (tab-length after.listed _) ∙ ap length order-is ∙ length-append (seen_of seen).order (run block.start block.end)
        ∙ (λ j. tab-length seen.listed (λ k. get_or seen.rows k 0) j + tab-length (size_of block) (λ k. block.start + k) j)

    within : Within (rows_of blocks) ((seen_of seen).order ++ run block.start block.end)
    within i q = by (dec_lt i (length (seen_of seen).order))
      where
        by : Dec (i < length (seen_of seen).order) → get_or ((seen_of seen).order ++ run block.start block.end) i 0 < rows_of blocks
        by (yes l) = rw (get_or_append_left (seen_of seen).order (run block.start block.end) 0 i l) (free.along i l)
        by (no l) =
            let size : length (run block.start block.end) ≡ size_of block = tab-length (size_of block) (λ k. block.start + k) in
            let inside : i - length (seen_of seen).order < size_of block =
            omega (arith, length-append (seen_of seen).order (run block.start block.end), size) in
            let read : get_or (run block.start block.end) (i - length (seen_of seen).order) 0 ≡ block.start + (i - length (seen_of seen).order) =
            tab-at (size_of block) (λ k. block.start + k) 0 (i - length (seen_of seen).order) inside in
            rw (get_or-append_right (seen_of seen).order (run block.start block.end) (length (seen_of seen).order) i 0 refl (omega arith))
            (omega (arith, read, inside, (pre.each current here).inside))

    free-on : Free blocks after
    free-on = record {
      left = omega (arith, free.left, room-is, longer, ap (room blocks) visited-is);
      along = subst (Within (rows_of blocks)) (sym order-is) within;
    }

lost : {blocks : List RowBlock} {seen : Searched} {d : Turn Seen NoPath} → stop declined ≡ d → Walked blocks (stop declined) seen d
lost e = record { is = e; free = tt }

abbrev begun : Searched → ℕ → Walk
begun start first = record { seen = seen_of start; current = first; previous = None }

module _ {blocks : List RowBlock} {edges : List Ends} where
  pub walk_none : {start : Searched} {first : ℕ} → first < length blocks → Free blocks start → WalkSo blocks edges start first 0 start first None
  walk_none {start} {first} h f = record { is = loop-none (walk_turn blocks edges) (begun start first); here = h; free = f }

  module _ {start : Searched} {first k : ℕ} {seen : Searched} {current : ℕ} {previous : Option ℕ}
      (inv : WalkSo blocks edges start first k seen current previous) where
    abbrev Whole : Turn Seen NoPath
    Whole = walk blocks edges first (seen_of start)

    abbrev now : Walk
    now = record { seen = seen_of seen; current = current; previous = previous }

    pub walk-spent : k ≤ length blocks → length blocks ≤ k → Walked blocks (stop declined) seen Whole
    unfolding walk
    walk-spent a b = lost (ap walked (loop-end (walk_turn blocks edges) (begun start first) a b inv.is))

    module _ (h : k < length blocks) where
      -- the turn ends the walk
      whole_is : {d : Turn Seen NoPath} → stop d ≡ walk_turn blocks edges k now → d ≡ Whole
      unfolding walk
      whole_is e = ap walked (loop-stop (walk_turn blocks edges) (begun start first) (length blocks) h inv.is e)

      pub walk-met : get_or seen.visited current false ≡ true → Walked blocks (stop declined) seen Whole
      unfolding walk_turn
      walk-met q = lost (whole_is (then-stop _ (returns-if _ q)))

      module _ (pre : Blocked blocks) (q : get_or seen.visited current false ≡ false) (after : Searched)
          (e : seen_of after ≡ visit current (block_at blocks current) (seen_of seen))
          {next : Option ℕ} (en : next ≡ next_at blocks edges current previous) where
        turned : turn_to (seen_of after) current next ≡ walk_turn blocks edges k now
        unfolding walk_turn
        turned = (λ j. turn_to (e j) current (en j))
            ∙ then-go (λ _. turn_to (visit current (block_at blocks current) (seen_of seen)) current (next_at blocks edges current previous))
            (goes_on {E = Turn Seen NoPath} (stop declined) q)

        pub walk_ends : next ≡ None → Walked blocks (go tt) after Whole
        walk_ends w = record {
          is = whole_is (ap (turn_to (seen_of after) current) (sym w) ∙ turned);
          free = free-on pre inv.here inv.free q after e;
        }

        pub walk_more : Sound blocks edges → {to : ℕ} → next ≡ Some to → WalkSo blocks edges start first (k + 1) after to (Some current)
        walk_more sound {to} w = record {
          is = loop-more (walk_turn blocks edges) (begun start first) inv.is (ap (turn_to (seen_of after) current) (sym w) ∙ turned);
          here = next-there sound previous inv.here (sym en ∙ w);
          free = free-on pre inv.here inv.free q after e;
        }

-- ---- walks
-- a walk's answer by another name
pub walked-as : {blocks : List RowBlock} {r q : Turn (Unit {0}) NoPath} {seen : Searched} {d : Turn Seen NoPath} → r ≡ q → Walked blocks r seen d
    → Walked blocks q seen d
walked-as {blocks} {seen = seen} {d = d} e w = subst (λ r. Walked blocks r seen d) e w

-- after k walks
pub record WalksSo (blocks : List RowBlock) (edges : List Ends) (k : ℕ) (seen : Searched) : Type 0 where
  pub is : go (seen_of seen) ≡ loop k (walk_from blocks edges) none_seen
  pub free : Free blocks seen

pub walks-none : {blocks : List RowBlock} (edges : List Ends) {seen : Searched} → Blocked blocks → seen_of seen ≡ none_seen → WalksSo blocks edges 0 seen
walks-none {blocks} edges {seen} pre e = record {
  is = ap go e ∙ loop-none (walk_from blocks edges) none_seen;
  free = record {
    left = omega (arith, none, ap (room blocks) (ap (λ (s : Seen). s.visited) e), room-none blocks 96, pre.most);
    along = λ i h. absurd (omega (arith, ap length order));
  };
}
  where
    order : (seen_of seen).order ≡ []
    order = ap (λ (s : Seen). s.order) e

    none : seen.listed ≡ 0
    none = sym (tab-length seen.listed (λ k. get_or seen.rows k 0)) ∙ ap length order

module _ {blocks : List RowBlock} {edges : List Ends} {k : ℕ} {seen : Searched} (inv : WalksSo blocks edges k seen) where
  -- a walk, or none
  from_end : is_end blocks edges seen.visited k ≡ true → {d : Turn Seen NoPath} → d ≡ walk blocks edges k (seen_of seen)
      → d ≡ walk_from blocks edges k (seen_of seen)
  unfolding walk_from
  from_end h e = e ∙ cond_yes _ _ h

  pub walks-past : is_end blocks edges seen.visited k ≡ false → WalksSo blocks edges (k + 1) seen
  unfolding walk_from
  walks-past h = record { is = loop-more (walk_from blocks edges) none_seen inv.is (cond_no _ _ h); free = inv.free }

  module _ (h : is_end blocks edges seen.visited k ≡ true) {after : Searched} where
    pub walks-more : Walked blocks (go tt) after (walk blocks edges k (seen_of seen)) → WalksSo blocks edges (k + 1) after
    walks-more w = record { is = loop-more (walk_from blocks edges) none_seen inv.is (from_end h w.is); free = w.free }

    pub walks-lost : k < length blocks → (e : NoPath) → Walked blocks (stop e) after (walk blocks edges k (seen_of seen))
        → Walked blocks (stop e) after (path_walks blocks edges)
    unfolding path_walks
    walks-lost l e w = record { is = loop-stop (walk_from blocks edges) none_seen (length blocks) l inv.is (from_end h w.is); free = tt }

  pub walks-end : k ≤ length blocks → length blocks ≤ k → Walked blocks (go tt) seen (path_walks blocks edges)
  unfolding path_walks
  walks-end a b = record { is = loop-end (walk_from blocks edges) none_seen a b inv.is; free = inv.free }

-- ---- path_order
-- the last test, on what the walks gave
finish : ℕ → Seen → Turn (List ℕ) NoPath
finish n found = return_if (not (eqb (length found.order) n)) declined >>= λ _. go found.order

-- an answer by another name
pub ordered-as : {n : ℕ} {r q d : Turn (List ℕ) NoPath} → r ≡ q → Ordered n r d → Ordered n q d
ordered-as {n} {d = d} e o = subst (λ r. Ordered n r d) e o

module _ (a b : List ℕ) (n : ℕ) {blocks : List RowBlock} (made : blocks ≡ path_blocks a b n) where
  edges-are : {x : Turn (List Ends) NoPath} → x ≡ path_edges blocks → x ≡ path_edges (path_blocks a b n)
  edges-are e = e ∙ ap path_edges made

  pub order-declined : (e : NoPath) → stop e ≡ path_edges blocks → Ordered n (stop e) (path_order a b n)
  unfolding path_order
  order-declined e h = record { is = then-stop _ (edges-are h); along = tt; blank = tt }

  module _ (edges : List Ends) (h : go edges ≡ path_edges blocks) where
    walked-is : {x : Turn Seen NoPath} → x ≡ path_walks blocks edges → (x >>= finish n) ≡ path_order a b n
    unfolding path_order finish
    walked-is e = ap (λ (x : Turn Seen NoPath). x >>= finish n) (e ∙ ap (λ (l : List RowBlock). path_walks l edges) made) ∙ then-go _ (edges-are h)

    pub order-lost : (e : NoPath) {seen : Searched} → Walked blocks (stop e) seen (path_walks blocks edges) → Ordered n (stop e) (path_order a b n)
    unfolding and_then
    order-lost e w = record { is = walked-is w.is; along = tt; blank = tt }

    module _ {seen : Searched} (w : Walked blocks (go tt) seen (path_walks blocks edges)) where
      finish-is : finish n (seen_of seen) ≡ path_order a b n
      unfolding and_then
      finish-is = walked-is w.is

      listed-is : length (seen_of seen).order ≡ seen.listed
      listed-is = tab-length seen.listed (λ k. get_or seen.rows k 0)

      pub order-short : (seen.listed ≡ n → ⊥) → Ordered n (stop declined) (path_order a b n)
      unfolding finish
      order-short q = record {
        is = then-stop _ (returns-if declined (ap not (ne_eqb (length (seen_of seen).order) n (λ r. q (sym listed-is ∙ r))))) ∙ finish-is;
        along = tt;
        blank = tt;
      }

      -- the path is found: its order lists n rows below n, and behind them its table is 0
      pub order-found : rows_of blocks ≡ n → seen.listed ≡ n → Ordered n (go seen.rows) (path_order a b n)
      unfolding finish
      order-found all q = record {
        is = ap (λ (m : ℕ). go (list_of_first seen.rows m)) (sym q)
            ∙ then-go _ (goes_on declined (ap not (eq-eqb (length (seen_of seen).order) n (listed-is ∙ q)))) ∙ finish-is;
        along = λ i l. row-below i (omega arith);
        blank = λ i l m. seen.blank i (omega arith) m;
      }
        where
          row-below : (i : ℕ) → i < seen.listed → get_or seen.rows i 0 < n
          row-below i l =
              let read : get_or (seen_of seen).order i 0 ≡ get_or seen.rows i 0 = tab-at seen.listed (λ k. get_or seen.rows k 0) 0 i l in
              omega (arith, read, w.free.along i (omega (arith, listed-is)), all)
