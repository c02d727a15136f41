-- The first 5,756 bytes decide every file, however long: all records that fit the tables, and the mark after them.
use Prim.Native.Nat.{ℕ, zero, suc, ◌+◌, ◌-◌, ◌*◌, ◌≤◌, ◌<◌}
use Rattle.std.specs.Prelude.{◌≡◌, Bool, true, false, List, [], ◌∷◌, ◌⊎◌, leb, length, take, drop, Float, Option, None, Some, is_some, Ok, Err}
use Rattle.std.proofs.Math.Path.{refl, sym, ap}
use Rattle.std.proofs.Common.{◌∙◌, inl, inr, length-drop, take_all, length-take-le, get_or-take}
use Rattle.std.proofs.Math.Bool.{cond}
use native.Mathlib.Omega.{arith}
use Rattle.std.proofs.Math.Decide.{dec_lt}
use Rattle.std.proofs.Math.Dec.{ltb, eqb}
use Rattle.std.proofs.lemmas.Slice.{between_is}
use borrow.Author.Tests.{le-ltb, leb-false, ne_eqb}
use Rattle.rows.specs.Region.{tab-ext}
use Rattle.plan.specs.declared.reader.Tables.{Tables}
use Rattle.plan.specs.declared.reader.ReadError.TheVariants.{SecondTimeStep, TooMany, Truncated}
use Rattle.plan.specs.declared.reader.Record.TheVariants as found
use Rattle.plan.specs.File.{NUMBERS, TIME_STEP, BODY, SIDE_A, SIDE_B, KIND, FRAME_A, FRAME_B, SWING_X, SWING_Y, TWIST_LOWER, TWIST_UPPER, CONE_TWIST}
use Rattle.plan.specs.File.{byte, double, body_of, frame_at, kind_named, kind_of, joint_of, joint_size, marked, DT, BD, JT}
use Rattle.plan.specs.File.{Head, there_is, time_step_head, body_head, joint_head, head_of, with_body, with_joint, Reading, next_of, read_on, read_of, emptied}
use Rattle.plan.specs.FileLaws.{Room, head-room, size-within}

-- the bytes that can still matter, where these were read
needed : Bool → ℕ → ℕ → ℕ
needed seen bodies joints = 2 + cond seen 0 TIME_STEP + BODY * (16 - bodies) + CONE_TWIST * (16 - joints)

split : (a b : ℕ) → (a < b) ⊎ (b ≤ a)
split a b = by (dec_lt a b)
  where
    by : Dec (a < b) → (a < b) ⊎ (b ≤ a)
    by (yes h) = inl h
    by (no h) = inr (omega arith)

-- ---- what stands before the cut
module _ (m : ℕ) (s : List ℕ) where
  byte_cut : (i : ℕ) → i < m → byte (take m s) i ≡ byte s i
  byte_cut i h = get_or-take m s i 0 h

  double-cut : (i : ℕ) → i + 8 ≤ m → double (take m s) i ≡ double s i
  unfolding double
  double-cut i h =
      cc (
        byte_cut i (omega arith),
        byte_cut (i + 1) (omega arith),
        byte_cut (i + 2) (omega arith),
        byte_cut (i + 3) (omega arith),
        byte_cut (i + 4) (omega arith),
        byte_cut (i + 5) (omega arith),
        byte_cut (i + 6) (omega arith),
        byte_cut (i + 7) (omega arith),
      )

  body-cut : BODY ≤ m → body_of (take m s) ≡ body_of s
  unfolding body_of
  body-cut h = tab-ext 26 (λ k l. double-cut (NUMBERS + 8 * k) (omega arith))

  frame-cut : (i : ℕ) → i + 56 ≤ m → frame_at (take m s) i ≡ frame_at s i
  frame-cut i h =
      cc (
        double-cut i (omega arith),
        double-cut (i + 8) (omega arith),
        double-cut (i + 16) (omega arith),
        double-cut (i + 24) (omega arith),
        double-cut (i + 32) (omega arith),
        double-cut (i + 40) (omega arith),
        double-cut (i + 48) (omega arith),
      )

  joint-cut : CONE_TWIST ≤ m → joint_of (take m s) ≡ joint_of s
  unfolding joint_of kind_of kind_named
  joint-cut h =
      cc (
        byte_cut SIDE_A (omega arith),
        byte_cut SIDE_B (omega arith),
        byte_cut KIND (omega arith),
        frame-cut FRAME_A (omega arith),
        frame-cut FRAME_B (omega arith),
        double-cut SWING_X (omega arith),
        double-cut SWING_Y (omega arith),
        double-cut TWIST_LOWER (omega arith),
        double-cut TWIST_UPPER (omega arith),
      )

-- ---- the tests, where the cut leaves something out
same_if : {A : Type 0} (b : Bool) (x : A) {y z : A} → (b ≡ false → y ≡ z) → cond b x y ≡ cond b x z
same_if true x h = refl
same_if false x h = h refl

module _ (m : ℕ) (s : List ℕ) (long : m < length s) where
  cut-length : length (take m s) ≡ m
  cut-length = length-take-le m s (omega arith)

  -- no length up to m is too long for either
  long-enough : (k : ℕ) → k ≤ m → ltb (length (take m s)) k ≡ ltb (length s) k
  long-enough k h = le-ltb (length (take m s)) k (rw cut-length h) ∙ sym (le-ltb (length s) k (omega arith))

  mark-cut : (mark : List ℕ) → 2 ≤ m → marked (take m s) mark ≡ marked s mark
  mark-cut mark h = cc (byte_cut m s 0 (omega arith), byte_cut m s 1 (omega arith))

  module _ (seen : Bool) (bodies joints : ℕ) (h : needed seen bodies joints ≤ m) where
    two-needed : 2 ≤ m
    unfolding needed
    two-needed = omega arith

    time-step-cut : time_step_head (take m s) seen ≡ time_step_head s seen
    unfolding time_step_head needed
    time-step-cut =
        same_if seen (Err SecondTimeStep) λ e.
        let l : TIME_STEP ≤ m = omega (arith, rw e at h) in
        ap (λ (b : Bool). cond b (Err Truncated) (there_is found.TimeStep)) (long-enough TIME_STEP l)

    body-head-cut : body_head (take m s) bodies ≡ body_head s bodies
    unfolding body_head needed
    body-head-cut =
        same_if (leb 16 bodies) (Err TooMany) λ e.
        let l : BODY ≤ m = omega (arith, leb-false 16 bodies e) in
        ap (λ (b : Bool). cond b (Err Truncated) (there_is found.Body)) (long-enough BODY l)

    joint-head-cut : joint_head (take m s) joints ≡ joint_head s joints
    unfolding joint_head needed
    joint-head-cut =
        same_if (leb 16 joints) (Err TooMany) λ e.
        let l : CONE_TWIST ≤ m = omega (arith, leb-false 16 joints e) in
        let b4 : byte (take m s) KIND ≡ byte s KIND = byte_cut m s KIND (omega arith) in
        let l5 : ltb (length (take m s)) FRAME_A ≡ ltb (length s) FRAME_A = long-enough FRAME_A (omega arith) in
        let size : ℕ = joint_size (byte s KIND) in
        let ls : ltb (length (take m s)) size ≡ ltb (length s) size = long-enough size (omega (arith, (size-within (byte s KIND)).1)) in
        rw (b4, l5, ls) refl

    head-cut : head_of (take m s) seen bodies joints ≡ head_of s seen bodies joints
    unfolding head_of
    head-cut =
        let two : 2 ≤ m = two-needed in
        let l0 : eqb (length (take m s)) 0 ≡ eqb (length s) 0 =
        ne_eqb (length (take m s)) 0 (λ e. omega (arith, cut-length)) ∙ sym (ne_eqb (length s) 0 (λ e. omega arith)) in
        let l2 : ltb (length (take m s)) 2 ≡ ltb (length s) 2 = long-enough 2 two in
        let k1 : marked (take m s) DT ≡ marked s DT = mark-cut DT two in
        let k2 : marked (take m s) BD ≡ marked s BD = mark-cut BD two in
        let k3 : marked (take m s) JT ≡ marked s JT = mark-cut JT two in
        let h1 : time_step_head (take m s) seen ≡ time_step_head s seen = time-step-cut in
        let h2 : body_head (take m s) bodies ≡ body_head s bodies = body-head-cut in
        let h3 : joint_head (take m s) joints ≡ joint_head s joints = joint-head-cut in
        cc

-- ---- one turn, and all of them
-- f of what is before the cut is f of the whole, where that holds of a cut that leaves something out
either : {A : Type 0} (f : List ℕ → A) (m : ℕ) (s : List ℕ) → (m < length s → f (take m s) ≡ f s) → f (take m s) ≡ f s
either {A} f m s h = by (split m (length s))
  where
    by : (m < length s) ⊎ (length s ≤ m) → f (take m s) ≡ f s
    by (inl l) = h l
    by (inr l) = ap f (take_all m s l)

needed_by : Option Float → Tables → ℕ
needed_by dt t = needed (is_some dt) t.body_count t.joint_count

module _ (tables : Tables) (m : ℕ) (s : List ℕ) (dt : Option Float) (t : Tables) (h : needed_by dt t ≤ m) where
  time-step-cut-double : is_some dt ≡ false → double (take m s) NUMBERS ≡ double s NUMBERS
  unfolding needed needed_by
  time-step-cut-double e = double-cut m s NUMBERS (omega (arith, rw e at h))

  with-body-cut : t.body_count < 16 → with_body (take m s) t ≡ with_body s t
  unfolding with_body needed needed_by
  with-body-cut l = let b : body_of (take m s) ≡ body_of s = body-cut m s (omega arith) in cc

  with-joint-cut : t.joint_count < 16 → with_joint (take m s) t ≡ with_joint s t
  unfolding with_joint needed needed_by
  with-joint-cut l = let j : joint_of (take m s) ≡ joint_of s = joint-cut m s (omega arith) in cc

  -- with a record more so many bytes less are needed
  less-time-step : (x : Float) → is_some dt ≡ false → needed_by (Some x) t ≤ m - TIME_STEP
  unfolding needed needed_by
  less-time-step x e = omega (arith, rw e at h)

  less-body : t.body_count < 16 → needed_by dt (with_body s t) ≤ m - BODY
  unfolding with_body needed needed_by
  less-body l = omega arith

  less-joint : (n : ℕ) → t.joint_count < 16 → n ≤ CONE_TWIST → needed_by dt (with_joint s t) ≤ m - n
  unfolding with_joint needed needed_by
  less-joint n l k = omega arith

  module _ (more rest : ℕ → Option Float → Tables → Reading)
      (ih : (k : ℕ) (x : Option Float) (u : Tables) → 1 ≤ k → k ≤ length s → needed_by x u ≤ m - k → more k x u ≡ rest k x u) where
    next-cut : (f : Head) → Room s (is_some dt) t.body_count t.joint_count f → next_of f (take m s) tables dt t more ≡ next_of f s tables dt t rest
    unfolding next_of Room
    next-cut (Err e) r = refl
    next-cut (Ok None) r = refl
    next-cut (Ok (Some found.TimeStep)) r =
        ap (λ (x : Float). more TIME_STEP (Some x) t) (time-step-cut-double r.1)
        ∙ ih TIME_STEP (Some (double s NUMBERS)) t (omega arith) r.0 (less-time-step (double s NUMBERS) r.1)
    next-cut (Ok (Some found.Body)) r = ap (more BODY dt) (with-body-cut r.1) ∙ ih BODY dt (with_body s t) (omega arith) r.0 (less-body r.1)
    next-cut (Ok (Some (found.Joint n))) r =
        let q = size-within (byte s KIND) in
        ap (more n dt) (with-joint-cut r.1)
        ∙ ih n dt (with_joint s t) (omega (arith, r.2, q.0)) (omega (arith, r.2, r.0.1)) (less-joint n r.1 (omega (arith, r.2, q.1)))

cut-some : (m : ℕ) (s : List ℕ) → 1 ≤ m → 1 ≤ length s → 1 ≤ length (take m s)
cut-some zero s h g = absurd (omega arith)
cut-some (suc m) [] h g = g
cut-some (suc m) (x ∷ xs) h g = omega arith

mark-needed : (dt : Option Float) (t : Tables) {m : ℕ} → needed_by dt t ≤ m → 2 ≤ m
unfolding needed needed_by
mark-needed dt t h = omega arith

rest-shorter : (k m a : ℕ) (s : List ℕ) → 1 ≤ k → 1 ≤ length (take m s) → length (take m s) < suc a → length (take (m - k) (drop k s)) < a
rest-shorter k m a s one some h = omega (arith, ap length (sym (between_is s k m)), length-drop k (take m s))

on-cut : (tables : Tables) (a b m : ℕ) (s : List ℕ) (dt : Option Float) (t : Tables) → needed_by dt t ≤ m → length (take m s) < a → length s < b
    → read_on a (take m s) tables dt t ≡ read_on b s tables dt t
unfolding read_on needed_by
on-cut tables zero b m s dt t h la lb = absurd (omega arith)
on-cut tables (suc a) zero m s dt t h la lb = absurd (omega arith)
on-cut tables (suc a) (suc b) m s dt t h la lb =
    let seen : Bool = is_some dt in
    let bodies : ℕ = t.body_count in
    let joints : ℕ = t.joint_count in
    ap (λ (f : Head). next_of f (take m s) tables dt t (λ k x u. read_on a (drop k (take m s)) tables x u))
    (either (λ x. head_of x seen bodies joints) m s (λ l. head-cut m s l seen bodies joints h))
    ∙ next-cut tables m s dt t h (λ k x u. read_on a (drop k (take m s)) tables x u) (λ k x u. read_on b (drop k s) tables x u)
    (λ k x u one there less.
    ap (λ (y : List ℕ). read_on a y tables x u) (sym (between_is s k m))
    ∙ on-cut tables a b (m - k) (drop k s) x u less
    (rest-shorter k m a s one (cut-some m s (omega (arith, mark-needed dt t h)) (omega arith)) la) (omega (arith, length-drop k s)))
    (head_of s seen bodies joints)
    (head-room s seen bodies joints)

pub first-bytes : (m : ℕ) (file : List ℕ) (tables : Tables) → 5756 ≤ m → read_of (take m file) tables ≡ read_of file tables
unfolding read_of needed needed_by
first-bytes m file tables h =
    on-cut tables (suc (length (take m file))) (suc (length file)) m file None (emptied tables) (omega arith) (omega arith) (omega arith)
