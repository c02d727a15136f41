-- The records at the head of a file, from their doubles.
use Prim.Native.Nat.{ℕ, ◌+◌, ◌*◌, ◌≤◌, ◌<◌}
use mathlib.Core.Path.{◌≡◌, sym, ◌∙◌, ap, subst}
use mathlib.Core.List.{List}
use lib.ListN.{length}
use lib.Ieee.{Float, nan}
use native.Mathlib.Omega.{arith}
use native.Mathlib.Decide.{dec_lt}
use mathlib.Core.Bool.{Bool, cond}
use borrow.Author.Tests.{lt-ltb, le-ltb, lt-leb}
use Rattle.std.specs.Prelude.{Result, Ok, Err}
use Rattle.plan.specs.declared.kind.JointKind.{JointKind}
use Rattle.plan.specs.declared.reader.ReadError.{ReadError}
use Rattle.plan.specs.declared.reader.ReadError.TheVariants.{KindByte, Truncated}
use Rattle.plan.specs.declared.reader.Record.TheVariants as found
use Rattle.rows.specs.View.{at}
use Rattle.rows.specs.Region.{tab-length, is-tab}
use Rattle.plan.specs.File.{NUMBERS, KIND, FRAME_A, byte, double, body_of, joint_length, kind_named, kind_byte, joint_size, JointThere, there_is, joint_head}
use Rattle.plan.specs.FileLaws.{length_named}

-- ---- the kind of a joint
module _ (s : List ℕ) {r : Result JointKind ReadError} (e : r ≡ kind_byte (byte s KIND)) {kind : JointKind} (ok : r ≡ Ok kind) where
  -- a byte that has a kind is one of six
  six : byte s KIND ≤ 5
  six = by (dec_lt 5 (byte s KIND))
    where
      refusal : Result JointKind ReadError → Type 0
      refusal (Ok k) = ⊥
      refusal (Err o) = Unit {0}

      by : Dec (5 < byte s KIND) → byte s KIND ≤ 5
      by (yes h) = absurd (subst refusal (sym (ap (λ (b : Bool). cond b (Err KindByte) (Ok (kind_named (byte s KIND)))) (lt-ltb _ _ h)) ∙ sym e ∙ ok) tt)
      by (no h) = omega arith

  named : kind_named (byte s KIND) ≡ kind
  named = ap got (sym (ap (λ (b : Bool). cond b (Err KindByte) (Ok (kind_named (byte s KIND)))) (le-ltb _ _ six)) ∙ sym e ∙ ok)
    where
      got : Result JointKind ReadError → JointKind
      got (Ok k) = k
      got (Err o) = kind

  size : joint_length kind ≡ joint_size (byte s KIND)
  size = ap joint_length (sym named) ∙ length_named (byte s KIND) six

  pub kind-there : JointThere s → joint_length kind ≤ length s
  kind-there h = omega (arith, size, h.1)

  module _ (joints : ℕ) (room : joints < 16) (bytes : FRAME_A ≤ length s) {n : ℕ} (long : n ≡ joint_length kind) where
    pub joint-short : length s < n → Err Truncated ≡ joint_head s joints
    unfolding joint_head
    joint-short g =
        let h : length s < joint_size (byte s KIND) = omega (arith, long, size) in
        simp (lt-leb _ _ room, le-ltb _ _ bytes, le-ltb _ _ six, lt-ltb _ _ h)

    pub joint-there : n ≤ length s → there_is (found.Joint n) ≡ joint_head s joints
    unfolding joint_head
    joint-there g =
        let h : joint_size (byte s KIND) ≤ length s = omega (arith, long, size) in
        rw (long ∙ size) (simp (lt-leb _ _ room, le-ltb _ _ bytes, le-ltb _ _ six, le-ltb _ _ h))

-- ---- the loop that stores a body's doubles
module _ (s : List ℕ) where
  pub body-length : 26 ≡ length (body_of s)
  unfolding body_of
  body-length = sym (tab-length 26 (λ k. double s (NUMBERS + 8 * k)))

  pub body-is : {items : List Float} → length items ≡ 26 → ((k : ℕ) → k < 26 → at items k ≡ double s (NUMBERS + 8 * k)) → items ≡ body_of s
  unfolding body_of
  body-is {items} size each = is-tab 26 (λ k. double s (NUMBERS + 8 * k)) nan items size each
