use Rattle.std.proofs.Common.{refl}
use Rattle.std.proofs.lemmas.Result.{err_from_is_err_and}
use Rattle.elf_image.proofs.Accepted.{refused-by_header, refused-by_entries, scan-refuses, text-decides, IsScan-at, Fits-from_scan, IsOutline-from_scan}
use Rattle.elf_image.proofs.image.judge.Goals as goal

pub returns-in_err-header-clause-refused : goal.returns-in_err-header-clause-refused
returns-in_err-header-clause-refused c =
    let p = err_from_is_err_and c.from_residual.result c.from_residual.ensures.1 in
    rw (p.1, p.2) (refused-by_header c.args.bytes.now c.args.version _ c.in_err-header.ensures.refused)

pub returns-in_err-code-clause-refused : goal.returns-in_err-code-clause-refused
returns-in_err-code-clause-refused c =
    let bytes = c.args.bytes.now in
    let version = c.args.version in
    let p = err_from_is_err_and c.from_residual-in_err-code.result c.from_residual-in_err-code.ensures.1 in
    let scan = IsScan-at c.image_limit.result bytes version c.in_ok-header.header c.of-scan.result c.image_limit.ensures c.in_ok-header.ensures.header c.of-scan.ensures in
    rw (p.1, p.2) (refused-by_entries bytes version _ c.in_ok-header.ensures.passed (scan-refuses bytes version c.of-scan.result _ scan c.in_err-code.ensures))

pub returns-in_err-text-clause-refused : goal.returns-in_err-text-clause-refused
returns-in_err-text-clause-refused c =
    let bytes = c.args.bytes.now in
    let version = c.args.version in
    let p = err_from_is_err_and c.from_residual-in_err-text.result c.from_residual-in_err-text.ensures.1 in
    let scan = IsScan-at c.image_limit.result bytes version c.in_ok-header.header c.of-scan.result c.image_limit.ensures c.in_ok-header.ensures.header c.of-scan.ensures in
    rw (p.1, p.2)
    (text-decides bytes version c.of-scan.result c.in_ok-code.code _ c.in_ok-header.ensures.passed scan c.in_ok-code.ensures c.in_err-text.ensures.refused)

pub outline_of-requires : goal.outline_of-requires
outline_of-requires c =
    let bytes = c.args.bytes.now in
    let version = c.args.version in
    let scan = IsScan-at c.image_limit.result bytes version c.in_ok-header.header c.of-scan.result c.image_limit.ensures c.in_ok-header.ensures.header c.of-scan.ensures in
    let found = c.in_ok-text.ensures.found in
    let fits = Fits-from_scan bytes version c.of-scan.result c.in_ok-code.code c.in_ok-text.text c.in_ok-header.ensures.passed scan c.in_ok-code.ensures found.0 found.1 in
    record { text = fits.0; reached = fits.1 }

pub returns-clause-accepted : goal.returns-clause-accepted
returns-clause-accepted c =
    let bytes = c.args.bytes.now in
    let version = c.args.version in
    let scan = IsScan-at c.image_limit.result bytes version c.in_ok-header.header c.of-scan.result c.image_limit.ensures c.in_ok-header.ensures.header c.of-scan.ensures in
    let found = c.in_ok-text.ensures.found in
    let is = c.outline_of.ensures in
    IsOutline-from_scan bytes version c.of-scan.result c.in_ok-code.code c.in_ok-text.text c.outline_of.result
    c.in_ok-header.ensures.table c.in_ok-header.ensures.passed scan c.in_ok-code.ensures found.0 found.1
    (rw is c.in_ok-header.ensures.header) (rw is refl) (rw is refl) (rw is refl)
