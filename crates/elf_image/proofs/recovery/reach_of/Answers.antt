use Rattle.std.proofs.Common.{◌≡◌, ◌<◌, ◌^◌, ◌∙◌, true, false, refl, sym, arith, subst, ℕ}
use Rattle.elf_image.specs.Recovery.{holds_image, carried_reach}
use Rattle.elf_image.proofs.RecoveryLemmas.{shows-at, reach-fits}
use Rattle.elf_image.proofs.recovery.reach_of.Goals as goal

pub overflow_cast-result : goal.overflow_cast-result
overflow_cast-result c =
    let bytes = c.args.bytes.now in
    let seen = shows-at c.image_limit-limit.result _ c.from.result bytes c.args.header.now c.args.layout.now c.of-scan.result c.shows_image.result
    c.image_limit-limit.ensures refl c.from.ensures c.requires.header c.requires.layout c.of-scan.ensures c.shows_image.ensures in
    let holds : holds_image bytes ≡ true = sym seen.0 ∙ c.if-shows_image.true in
    let near : carried_reach bytes < 2 ^ 32 = reach-fits bytes c.requires.front holds in
    omega (arith, near, seen.1)

pub returns-then-shows_image-clause-found : goal.returns-then-shows_image-clause-found
returns-then-shows_image-clause-found c =
    let bytes = c.args.bytes.now in
    let seen = shows-at c.image_limit-limit.result _ c.from.result bytes c.args.header.now c.args.layout.now c.of-scan.result c.shows_image.result
    c.image_limit-limit.ensures refl c.from.ensures c.requires.header c.requires.layout c.of-scan.ensures c.shows_image.ensures in
    let holds : holds_image bytes ≡ true = sym seen.0 ∙ c.if-shows_image.true in
    let near : carried_reach bytes < 2 ^ 32 = reach-fits bytes c.requires.front holds in
    (holds, seen.1, omega (arith, near, seen.1))

pub returns-else-shows_image-clause-damaged : goal.returns-else-shows_image-clause-damaged
returns-else-shows_image-clause-damaged c =
    let bytes = c.args.bytes.now in
    let seen = shows-at c.image_limit-limit.result _ c.from.result bytes c.args.header.now c.args.layout.now c.of-scan.result c.shows_image.result
    c.image_limit-limit.ensures refl c.from.ensures c.requires.header c.requires.layout c.of-scan.ensures c.shows_image.ensures in
    sym seen.0 ∙ c.if-shows_image.false
