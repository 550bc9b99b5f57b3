-- Bytes that are given by several calls, one after another.
use Rattle.std.proofs.Common.{◌≡◌, ℕ, Bool, true, false, List, [], ◌++◌, subst, refl}
use Rattle.std.proofs.lemmas.List.{append-nil}
use Rattle.world_io.specs.Outside.{SinkState}
use Rattle.elf_writer.specs.Streams.{Gives}
use Rattle.elf_writer.proofs.StreamLemmas.{held-Gives, then-Gives, part-Gives}

-- no bytes
pub none-Gives : (size : ℕ) (held text : List ℕ) (a : SinkState) → [] ≡ text → Gives size held a text true held a
none-Gives size held text a is =
    subst (λ t. Gives size held a t true held a) is (subst (λ now. Gives size held a [] true now a) (append-nil held) (held-Gives size held [] a))

-- two calls
pub two-Gives : (size n : ℕ) (held middle last : List ℕ) (a b c : SinkState) (text first second : List ℕ) (whole : Bool)
    → Gives size held a first true middle b → n ≡ size → Gives n middle b second whole last c → first ++ second ≡ text → Gives size held a text whole last c
two-Gives size n held middle last a b c text first second whole one e two is =
    subst (λ t. Gives size held a t whole last c) is
    (then-Gives size held first second middle last a b c whole one (subst (λ k. Gives k middle b second whole last c) e two))

-- the first of two failed
pub two_first-Gives : (size : ℕ) (held middle : List ℕ) (a b : SinkState) (text first second : List ℕ) (whole : Bool)
    → Gives size held a first false middle b → whole ≡ false → first ++ second ≡ text → Gives size held a text whole middle b
two_first-Gives size held middle a b text first second true one failed is = absurd cc
two_first-Gives size held middle a b text first second false one failed is =
    subst (λ t. Gives size held a t false middle b) is (part-Gives size held first second middle middle a b one)

-- three calls
pub three-Gives : (size n m : ℕ) (held w v last : List ℕ) (a b c d : SinkState) (text first second third : List ℕ) (whole : Bool)
    → Gives size held a first true w b → n ≡ size → Gives n w b second true v c → m ≡ size → Gives m v c third whole last d
    → first ++ second ++ third ≡ text → Gives size held a text whole last d
three-Gives size n m held w v last a b c d text first second third whole one e two f three is =
    two-Gives size m held v last a c d text (first ++ second) third whole
    (two-Gives size n held w v a b c (first ++ second) first second true one e two refl) f three is

-- the first of three failed
pub three_first-Gives : (size : ℕ) (held w : List ℕ) (a b : SinkState) (text first second third : List ℕ) (whole : Bool)
    → Gives size held a first false w b → whole ≡ false → first ++ second ++ third ≡ text → Gives size held a text whole w b
three_first-Gives size held w a b text first second third whole one failed is =
    two_first-Gives size held w a b text (first ++ second) third whole
    (two_first-Gives size held w a b (first ++ second) first second false one refl refl) failed is

-- the second of three failed
pub three_second-Gives : (size n : ℕ) (held w v : List ℕ) (a b c : SinkState) (text first second third : List ℕ) (whole : Bool)
    → Gives size held a first true w b → n ≡ size → Gives n w b second false v c → whole ≡ false → first ++ second ++ third ≡ text → Gives size held a text whole v c
three_second-Gives size n held w v a b c text first second third whole one e two failed is =
    two_first-Gives size held v a c text (first ++ second) third whole
    (two-Gives size n held w v a b c (first ++ second) first second false one e two refl) failed is

-- the last of three failed
pub three_last-Gives : (size n m : ℕ) (held w v last : List ℕ) (a b c d : SinkState) (text first second third : List ℕ) (whole : Bool)
    → Gives size held a first true w b → n ≡ size → Gives n w b second true v c → m ≡ size → Gives m v c third false last d → whole ≡ false
    → first ++ second ++ third ≡ text → Gives size held a text whole last d
three_last-Gives size n m held w v last a b c d text first second third true one e two f three failed is = absurd cc
three_last-Gives size n m held w v last a b c d text first second third false one e two f three failed is =
    three-Gives size n m held w v last a b c d text first second third false one e two f three is
