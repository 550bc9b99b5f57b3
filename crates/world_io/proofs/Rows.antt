-- A text of two bytes over a sink whose second put fails, computed.
use Rattle.std.proofs.Common.{◌≡◌, ℕ, false, List, [], ◌∷◌, refl, ap, ◌∙◌, arith, Option, Some, None}
use Rattle.world_io.specs.Outside.{SinkState, Numbers, Sure}
use Rattle.world_io.specs.Puts.{took, refused, counted}
use Rattle.world_io.specs.Logs.{SinkLog}
use Rattle.world_io.specs.Texts.{PutsText}
use Rattle.world_io.proofs.Sinks.{piece}

text : List ℕ
text = 7 ∷ 8 ∷ []

-- the sink before it
abbrev start : SinkState
start = record {
  bytes = Some [];
  puts = Some [];
  numbers = Some (record { calls = 0; fails = 2 ∷ [] });
  room = Sure 0;
  faults = 0;
  fixed = 5 ∷ [];
}

-- and behind it: one byte was taken, and two puts were made
abbrev end : SinkState
end = record {
  bytes = Some (7 ∷ []);
  puts = Some ((2, 1) ∷ []);
  numbers = Some (record { calls = 2; fails = 2 ∷ [] });
  room = Sure 0;
  faults = 1;
  fixed = 5 ∷ [];
}

-- the put that took, and the one that failed
makes_end : refused (took start (7 ∷ 8 ∷ []) 1) 1 ≡ end
makes_end = refl

-- the text was put in part
puts_a_part : PutsText start (7 ∷ 8 ∷ []) false end
puts_a_part = record {
  pieces = piece (7 ∷ 8 ∷ []) 1 ∷ [];
  fault = Some (8 ∷ []);
  of_text = (((λ e. cc), ([], refl)), (((λ e. cc), ([], refl)), refl));
  log = (
    took start (7 ∷ 8 ∷ []) 1,
    record { says = (omega arith, omega arith, refl, refl); sure = λ fits. absurd (omega arith) },
    (end, record { says = (omega arith, omega arith, refl); sure = λ fits. absurd (omega arith) }, refl),
  );
}

-- how many puts were made, where that is told
abbrev calls_told : Option Numbers → ℕ
calls_told None = 0
calls_told (Some n) = n.calls

-- a put behind the one that failed shows in the numbers
no_put_behind : SinkLog start (piece (7 ∷ 8 ∷ []) 1 ∷ []) (Some (8 ∷ [])) (took end (8 ∷ []) 1) → ⊥
no_put_behind log =
    let two : 3 ≡ calls_told (counted log.0.numbers) = ap (λ s. calls_told s.numbers) (log.2.2 ∙ log.2.1.says.2) in
    let one : calls_told (counted log.0.numbers) ≡ 2 = ap (λ s. calls_told (counted s.numbers)) log.1.says.3 in
    omega arith
