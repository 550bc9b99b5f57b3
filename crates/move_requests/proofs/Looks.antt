-- A move of the shadow asks for a look, or for nothing.
use Rattle.std.proofs.Common.{inl, inr, Bool, true, false, ◌&&◌, Option, Some, None, refl}
use Rattle.spec_base.specs.declared.note.Move.{Move}
use Rattle.spec_base.specs.declared.note.Move.TheVariants.{O, S, T, D}
use Rattle.program_model.specs.Calls.{CallPlan, Set, Look, Read, Write, Exit}
use Rattle.run_model.specs.Run.{World, Run, RunEnd}
use Rattle.run_model.specs.ShadowMoves.{shadow_plan}
use Rattle.run_laws.specs.OwnLaws.{IsShadowMove}
use Rattle.move_requests.specs.Asked.{Asked, asks_if, asks_unless, assuming_asks, is_assuming}
use Rattle.move_requests.specs.Laws.{ShadowLooksAlone, IsLookOrNothing}

assuming-looks : (plan : CallPlan) → IsLookOrNothing (assuming_asks plan)
assuming-looks (Look name) = inr (name, refl)
assuming-looks (Set f answer) = inl refl
assuming-looks (Read d spot a) = inl refl
assuming-looks (Write to_out a n) = inl refl
assuming-looks (Exit code) = inl refl

if-looks : (b : Bool) (asked : Asked) → IsLookOrNothing asked → IsLookOrNothing (asks_if b asked)
if-looks true asked h = h
if-looks false asked h = inl refl

unless-looks : (w : World) (r : Run) (m : Move) (e : Option RunEnd) → IsShadowMove m → IsLookOrNothing (asks_unless e w r m)
unless-looks w r m (Some e) h = inl refl
unless-looks w r S None h = if-looks (is_assuming w r) _ (assuming-looks (shadow_plan w r))
unless-looks w r T None h = if-looks (r.stalled && is_assuming w r) _ (assuming-looks (shadow_plan w r))
unless-looks w r O None h = elim h [ ]
unless-looks w r D None h = elim h [ ]

pub shadow_looks_alone : ShadowLooksAlone
shadow_looks_alone w r m h = unless-looks w r m r.end h
