-- The passes of both stages and their loop: links of a Run that counts on, from the calls' contracts; what differs by the stage; the loop by `Reached`.
use Rattle.std.specs.Prelude.{ℕ, ◌+◌, ◌*◌, ◌≤◌, ◌<◌, ◌≡◌, refl, Bool, true, false, List, Float}
use Rattle.std.specs.declared.ops.ControlFlow.TheVariants.{Continue, Break}
use Rattle.std.proofs.Common.{◌∙◌, ap, arith}
use Rattle.arith.specs.Flow.{Turn, go, stop}
use Rattle.arith.specs.Run.{ran, after, onward, try, begin, leave_if, up_to, ◌>>=◌}
use Rattle.arith.specs.RunLaws.{run_is, after-after, try-go, try-stop, leave-yes, leave-no, over}
use Rattle.arith.specs.RunLaws.{Reached, reached-none, reached-again, reached-over, reached-spent}
use Rattle.rows.specs.Fault.{CollisionError, NonConvergent, Result}
use Rattle.rows.specs.View.{Kept}
use Rattle.rows.specs.Region.{kept_refl, kept_then, kept_more}
use Rattle.solves.specs.declared.joined.Rows.{Rows}
use Rattle.solves.specs.Region.{Does}
use Rattle.solves.specs.RegionLaws.{kept-vec}
use Rattle.solves.specs.System.{Counting}
use Rattle.solves.specs.View.{Work, count_of, table_of}
use Rattle.solves.specs.ViewLaws.{kept-rows, system-kept}
use Rattle.step.specs.declared.passes.Counts.{Counts}
use Rattle.step.specs.Layout.{IMPULSES}
use Rattle.step.specs.ViewLaws.{kept-candidates}
use Rattle.step.specs.Bodies.{Job, add_impulses, reaction_of}
use Rattle.step.specs.Step.{nonlinear_pass, velocity_pass}
use Rattle.step.specs.RunView.{Which, Nonlinear, Velocity, Given, given_at, Gained, gained_at, pass_at, make_at, Apart, Outside, Goes, LIMIT}
use Rattle.step.specs.Says.{Passes, Loops}
use Rattle.step.proofs.LoopLaws.{kept-started}
use Rattle.step.proofs.CountLaws.{pass-few}

-- ---- links
-- with so many passes before, of what counts none
stays : {B : Type 0} (n l : ℕ) (t : Result B) → ran t n l ≡ after n l (try t)
stays n l t = run_is (omega arith) (omega arith)

-- through a link that counted: the rest goes on after its passes
through : {A B : Type 0} {t : Result A} (n l m k : ℕ) (R : Counting A) (f : A → Counting B) → ran t m k ≡ after n l R
    → after m k (onward f t) ≡ after n l (R >>= f)
unfolding ◌>>=◌
through {A} {B} n l m k R f e =
    ap (λ (q : Counting A). after q.nonlinear q.linear (onward f q.ends)) e ∙ after-after n l R.nonlinear R.linear (onward f R.ends)

module _ {B : Type 0} {P : ℕ → Type 0} {s u : List Float} {c : Counts} where
  pub goes-here : {t : Result B} → Kept P s u → Goes P s u c c t (try t)
  goes-here {t} kept = record { kept = kept; is = stays c.nonlinear c.linear t }

  -- the definition by another name
  pub goes-is : {now : Counts} {y : Result B} {d e : Counting B} → Goes P s u c now y d → d ≡ e → Goes P s u c now y e
  goes-is g h = record { kept = g.kept; is = g.is ∙ ap (after c.nonlinear c.linear) h }

  -- under a wider frame
  pub goes-more : {Q : ℕ → Type 0} {now : Counts} {y : Result B} {d : Counting B} → ((i : ℕ) → P i → Q i) → Goes Q s u c now y d → Goes P s u c now y d
  goes-more w g = record { kept = kept_more g.kept w; is = g.is }

  module _ {A : Type 0} (f : A → Counting B) where
    -- a call that counts nothing failed, and so does the block
    pub fails : {R : Result A} {e : CollisionError} → Does P s u (stop e) R → Goes P s u c c (stop e) (try R >>= f)
    fails {e = e} d = record { kept = d.kept; is = stays c.nonlinear c.linear (stop e) ∙ ap (after c.nonlinear c.linear) (try-stop f d.is) }

    -- or it went through at r, and the rest goes on from there
    pub goes-then : {R : Result A} {x : A} {r : List Float} {now : Counts} {y : Result B} → Does P s r (go x) R → Goes P r u c now y (f x)
        → Goes P s u c now y (try R >>= f)
    goes-then d g = record { kept = kept_then d.kept g.kept (λ i x. x); is = g.is ∙ ap (after c.nonlinear c.linear) (try-go f d.is) }

    -- the same of a call that counts
    pub run-fails : {R : Counting A} {now : Counts} {e : CollisionError} → Goes P s u c now (stop e) R → Goes P s u c now (stop e) (R >>= f)
    run-fails {R} {now} {e} g = record {
      kept = g.kept;
      is = stays now.nonlinear now.linear (stop e) ∙ through c.nonlinear c.linear now.nonlinear now.linear R f g.is;
    }

    pub run-then : {R : Counting A} {x : A} {r : List Float} {between now : Counts} {y : Result B} → Goes P s r c between (go x) R
        → Goes P r u between now y (f x) → Goes P s u c now y (R >>= f)
    run-then {R} {between = between} d g = record {
      kept = kept_then d.kept g.kept (λ i x. x);
      is = g.is ∙ through c.nonlinear c.linear between.nonlinear between.linear R f d.is;
    }

  -- a pass counts itself, and then does the rest
  pub begins : {now : Counts} {y : Result B} {rest : Counting B} → Goes P s u (record { nonlinear = c.nonlinear + 1; linear = c.linear }) now y rest
      → Goes P s u c now y (begin >>= λ _. rest)
  begins {rest = rest} g = record {
    kept = g.kept;
    is = g.is ∙ through c.nonlinear c.linear (c.nonlinear + 1) c.linear begin (λ _. rest) (run_is refl (omega arith));
  }

  -- a solve, which counts no nonlinear pass
  pub solved : {y : Result B} {R : Counting B} {l : ℕ} → Does P s u (ran y 0 l) (after 0 c.linear R)
      → Goes P s u c (record { nonlinear = c.nonlinear; linear = l }) y R
  solved {y} {R} {l} d = record {
    kept = d.kept;
    is = (λ i. ran (ap (λ (q : Counting B). q.ends) d.is i) c.nonlinear l)
        ∙ run_is (omega (arith, ap (λ (q : Counting B). q.nonlinear) d.is)) (ap (λ (q : Counting B). q.linear) d.is);
  }

-- ---- a test that ends a loop
module _ {A B : Type 0} {P : ℕ → Type 0} {s u : List Float} {c : Counts} {test : Bool} (out : B) (rest : Counting (Turn A B)) where
  pub leaves : test ≡ true → Kept P s u → Goes P s u c c (go (stop out)) (leave_if test out rest)
  leaves h kept = goes-is (goes-here kept) (leave-yes out rest h)

  pub goes-on : test ≡ false → {now : Counts} {y : Result (Turn A B)} → Goes P s u c now y rest → Goes P s u c now y (leave_if test out rest)
  goes-on h g = goes-is g (leave-no out rest h)

-- ---- by the stage
-- a solve leaves what is made of its solution
pub solve-inside : (which : Which) (i : ℕ) → Outside which i → Work i
solve-inside Nonlinear i x = omega (arith, x.1)
solve-inside Velocity i x = omega (arith, x.0)

pub same-make : (which : Which) (rows : Rows) {s u : List Float} → Kept Work s u → (x : List Float) → make_at which u rows x ≡ make_at which s rows x
same-make Nonlinear rows kept x =
    ap (λ (v : List Float). add_impulses v x) (kept-vec kept IMPULSES (count_of rows) (λ i a b. omega (arith, rows.few_rows)))
same-make Velocity rows kept x = λ j. reaction_of
    (kept-rows kept rows.a.now rows.b.now rows.place (count_of rows) (λ i a b. omega (arith, rows.in_table, rows.few_rows)) j)
    (kept-candidates kept rows.bodies (λ i a b. omega (arith, rows.few_bodies)) (λ i a b. omega (arith, rows.few_bodies)) j) x

-- a pass is over the same, however far the loop has come
same-pass : (which : Which) (job : Job) (rows : Rows) → Apart which rows → {s t : List Float} → Kept (Outside which) s t
    → (x : Given which) → pass_at which job rows t x ≡ pass_at which job rows s x
same-pass Nonlinear job rows apart kept x = λ j. nonlinear_pass job (kept-started kept rows apart (λ i x. x) j) x
same-pass Velocity job rows apart kept x = λ j. velocity_pass job
    (system-kept rows.a.now rows.b.now (table_of rows) (λ i a b. omega arith) rows.in_table rows.few_rows rows.few_bodies kept j) x

-- ---- the loop of both stages: each turn takes one pass over what stands in the scratch, and leaves its frame
module _ (which : Which) (job : Job) (rows : Rows) (most : ℕ) (s₀ : List Float) (c₀ : Counts) where
  abbrev Whole : ℕ → List Float → ℕ → ℕ → Type 0
  Whole k s n l = Reached most NonConvergent (pass_at which job rows s₀) (given_at which s₀ rows) k (given_at which s rows) n l

  -- what stands before turn k
  pub record Looping (s : List Float) (k : ℕ) (c : Counts) : Type 0 where
    pub kept : Kept (Outside which) s₀ s
    -- the passes counted in the loop
    pub nonlinear-passes : ℕ
    pub linear-passes : ℕ
    pub nonlinear-is : c.nonlinear ≡ c₀.nonlinear + nonlinear-passes
    pub linear-is : c.linear ≡ c₀.linear + linear-passes
    pub few : (nonlinear-passes ≤ k) × (linear-passes ≤ LIMIT * k)
    pub reached : Whole k s nonlinear-passes linear-passes

  pub loop-none : Looping s₀ 0 c₀
  loop-none = record {
    kept = kept_refl (Outside which) s₀;
    nonlinear-passes = 0;
    linear-passes = 0;
    nonlinear-is = omega arith;
    linear-is = omega arith;
    few = (omega arith, omega arith);
    reached = reached-none most NonConvergent (pass_at which job rows s₀) _;
  }

  pub loop-spent : {s : List Float} {k : ℕ} {c : Counts} → Looping s k c → k ≤ most → most ≤ k → Loops which rows s₀ s job most c₀ c (stop NonConvergent)
  loop-spent {s} {k} {c} inv a b = (
    record {
      kept = inv.kept;
      is = run_is inv.nonlinear-is inv.linear-is
          ∙ ap (after c₀.nonlinear c₀.linear) (reached-spent most NonConvergent (pass_at which job rows s₀) (given_at which s₀ rows) inv.reached b);
    },
    omega (arith, inv.nonlinear-is, inv.few.0),
  )

  abbrev pass : List Float → Counting (Turn (Given which) (Gained which))
  pass s = pass_at which job rows s (given_at which s rows)

  module _ (apart : Apart which rows) {s t : List Float} {k : ℕ} {c c' : Counts} (inv : Looping s k c) (h : k < most) where
    -- what the pass counted, and how it ended
    module _ {y : Result (Turn (Given which) (Gained which))} (g : Goes (Outside which) s t c c' y (pass s)) where
      keeps : Kept (Outside which) s₀ t
      keeps = kept_then inv.kept g.kept (λ i x. x)

      nonlinear-more : c'.nonlinear ≡ c₀.nonlinear + (inv.nonlinear-passes + (pass s).nonlinear)
      nonlinear-more = omega (arith, ap (λ (q : Counting _). q.nonlinear) g.is, inv.nonlinear-is)

      linear-more : c'.linear ≡ c₀.linear + (inv.linear-passes + (pass s).linear)
      linear-more = omega (arith, ap (λ (q : Counting _). q.linear) g.is, inv.linear-is)

      ends : ran y (pass s).nonlinear (pass s).linear ≡ pass_at which job rows s₀ (given_at which s rows)
      ends =
          (λ i. ran (ap (λ (q : Counting (Turn (Given which) (Gained which))). q.ends) g.is i) (pass s).nonlinear (pass s).linear)
          ∙ same-pass which job rows apart inv.kept (given_at which s rows)

      few-more : c'.nonlinear ≤ c.nonlinear + 1 → c'.nonlinear ≤ c₀.nonlinear + most
      few-more d = omega (arith, inv.nonlinear-is, inv.few.0)

    pub loop-again : Passes which rows s t job c c' (go (Continue tt)) → Looping t (k + 1) c'
    loop-again d = record {
      kept = keeps d.0;
      nonlinear-passes = inv.nonlinear-passes + (pass s).nonlinear;
      linear-passes = inv.linear-passes + (pass s).linear;
      nonlinear-is = nonlinear-more d.0;
      linear-is = linear-more d.0;
      few = (
        omega (arith, nonlinear-more d.0, inv.nonlinear-is, inv.few.0, d.1),
        omega (arith, inv.few.1, pass-few which job rows s (given_at which s rows)),
      );
      reached = reached-again most NonConvergent _ _ inv.reached h (ends d.0);
    }

    over-by : (y : Result (Gained which)) → Goes (Outside which) s t c c' (over y) (pass s)
        → Goes (Outside which) s₀ t c₀ c' y (up_to most NonConvergent (pass_at which job rows s₀) (given_at which s₀ rows))
    over-by y g = record {
      kept = keeps g;
      is = run_is (nonlinear-more g) (linear-more g)
          ∙ ap (after c₀.nonlinear c₀.linear) (reached-over most NonConvergent _ _ inv.reached h y (ends g));
    }

    pub loop-over : Passes which rows s t job c c' (go (Break tt)) → Loops which rows s₀ t job most c₀ c' (go tt)
    loop-over d = (over-by (go (gained_at which t rows)) d.0, few-more d.0 d.1)

    pub loop-fails : {e : CollisionError} → Passes which rows s t job c c' (stop e) → Loops which rows s₀ t job most c₀ c' (stop e)
    loop-fails {e} d = (over-by (stop e) d.0, few-more d.0 d.1)
