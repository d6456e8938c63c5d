use Rattle.op_names.proofs.Naming.{behind_first, reads_url, origin_cut, path_cut}
use Rattle.op_names.proofs.names.read_address.Goals as goal

pub range_from-requires : goal.range_from-requires
range_from-requires c _ = behind_first c.args.text.now _ _ c.utf8.text c.as_bytes.ensures.value c.in-Some-eq36.ensures.value c.in-Some-eq36.field-0-test

pub returns-in-Some : goal.returns-in-Some
returns-in-Some c =
    let same = c.as_bytes-in-Some.ensures.value in
    reads_url c.args.text.now _ _ _ _ _ c.as_bytes.ensures.value c.in-Some.ensures.value c.in-Some.field-0-test.1
    (origin_cut c.args.text.now _ _ _ same c.scheme_length.ensures.value c.cut.ensures.origin)
    (path_cut c.args.text.now _ _ _ same c.scheme_length.ensures.value c.cut.ensures.path) c.address_at.ensures
