use Rattle.std.proofs.Common.{refl, sym}
use Rattle.elf_image.proofs.RecoveryLemmas.{IsFront-from, record-damaged, image-damaged, none-damaged, image-is, carried-is, IsRecovered-is}
use Rattle.elf_image.proofs.recovery.recover.Goals as goal

pub returns-then-not-holds_front-clause-answer : goal.returns-then-not-holds_front-clause-answer
returns-then-not-holds_front-clause-answer c = record-damaged c.args.bytes.now (sym c.if-not-holds_front.ensures)

pub returns-in_default-clause-answer : goal.returns-in_default-clause-answer
returns-in_default-clause-answer c = image-damaged c.args.bytes.now (sym c.if-not-holds_front.ensures) c.in_default.ensures.damaged

pub returns-in-Ok-clause-answer : goal.returns-in-Ok-clause-answer
returns-in-Ok-clause-answer c =
    let bytes = c.args.bytes.now in
    let found = c.in-Some.ensures.found in
    let is = image-is bytes c.read-header.result c.recorded_layout-layout.result c.in-Some.reached c.in-Ok.segments
    c.read-header.ensures c.recorded_layout-layout.ensures found.1 c.in-Ok.ensures in
    (none-damaged bytes (sym c.if-not-holds_front.ensures) found.0, carried-is bytes _ c.recorded_layout-layout.result is c.recorded_layout-layout.ensures)

pub returns-in-Ok-clause-holds : goal.returns-in-Ok-clause-holds
returns-in-Ok-clause-holds c =
    let bytes = c.args.bytes.now in
    let found = c.in-Some.ensures.found in
    let is = image-is bytes c.read-header.result c.recorded_layout-layout.result c.in-Some.reached c.in-Ok.segments
    c.read-header.ensures c.recorded_layout-layout.ensures found.1 c.in-Ok.ensures in
    IsRecovered-is bytes _ c.recorded_layout-layout.result (IsFront-from bytes (sym c.if-not-holds_front.ensures)) found.0 is c.recorded_layout-layout.ensures

pub returns-in-Err-clause-answer : goal.returns-in-Err-clause-answer
returns-in-Err-clause-answer c = none-damaged c.args.bytes.now (sym c.if-not-holds_front.ensures) c.in-Some.ensures.found.0
