-- Code without jumps to labels is closed to its own words.
use Rattle.std.proofs.Common.{◌≡◌, ℕ, List, [], map, Result, Ok, Err, Vec, Global, MatchResult, subst}
use Rattle.rv_decode.specs.declared.instr.Instr.{Instr}
use Rattle.rv_decode.specs.Encoding.{word_of}
use Rattle.rv_encode.specs.Code.{Code, closed_of}
use Rattle.rv_encode.specs.declared.closing.CloseFault.{CloseFault}
use Rattle.assembler.specs.Emitted.{with_code}

-- a buffer as it begins
abbrev pub empty : Code
empty = record { words = []; uses = []; places = [] }

-- where a list was appended to an empty buffer, the words are those of the list
pub closed-items : (code : Code) (instrs : List Instr) (result : Result (Vec ℕ Global) CloseFault) (words : Vec ℕ Global) → code ≡ with_code empty instrs → result ≡ Ok words →
    MatchResult result (λ closed. closed_of code ≡ Ok closed.items) (λ fault. closed_of code ≡ Err fault) → words.items ≡ map word_of instrs
closed-items code instrs result words made done closed =
    let at_ok : closed_of code ≡ Ok words.items = subst (λ r. MatchResult r (λ closed. closed_of code ≡ Ok closed.items) (λ fault. closed_of code ≡ Err fault)) done closed in
    let computed : Ok (map word_of instrs) ≡ Ok words.items = subst (λ c. closed_of c ≡ Ok words.items) made at_ok in
    cc
