-- What each kind of joint holds: the one match on a kind. All else about a kind follows from it: its rows, how many they are, the
-- tests of its numbers, and what demand 3 promises of it.
use Rattle.rows.specs.Words.{Kind, Linear, Turning, Motions}

-- a rod between the anchors; or b's anchor at a's, on the line through it along frame a's Z, or on the plane through it across that,
-- while frame b turns freely, keeps its Z along a's, or stays within a cone and a twist
abbrev pub motions_of : Kind → Motions
motions_of Kind.Ball = Motions.Frame Linear.Point Turning.Free
motions_of Kind.Hinge = Motions.Frame Linear.Point Turning.Align
motions_of Kind.Cylindrical = Motions.Frame Linear.Line Turning.Align
motions_of Kind.Planar = Motions.Frame Linear.Plane Turning.Align
motions_of (Kind.Distance length) = Motions.Rod length
motions_of (Kind.ConeTwist swing_x swing_y lower upper) =
    Motions.Frame Linear.Point (Turning.Cone (record { swing_x = swing_x; swing_y = swing_y; twist_lower = lower; twist_upper = upper }))
