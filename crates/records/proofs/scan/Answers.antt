use Rattle.std.proofs.Common.{◌≡◌, refl, sym, ◌∙◌, arith}
use Rattle.std.proofs.lemmas.Result.{err_from_is_err_and}
use Rattle.fields.specs.Fields.{offset}
use Rattle.nests.proofs.NestLaws.{admits}
use Rattle.record.specs.Record.{record_in}
use Rattle.records.proofs.ReadLaws.{size-some, scan-start, scan-open, scan-done, scan-unlisted, scan-short, scan-fits, scan-fault, scan-full, scan-again}
use Rattle.records.proofs.scan.Goals as goal

pub loop-at-init : goal.loop-at-init
loop-at-init c = record { same_open = refl; going = scan-start c.args.most c.args.bytes.now _ c.new-nest.ensures.none c.new-nest.ensures.outside }

pub returns-then-not-is_listed : goal.returns-then-not-is_listed
returns-then-not-is_listed c =
    rw (c.refused.ensures.0, c.refused.ensures.1) (scan-unlisted _ _ _ _ _ c.loop-at.invariant.going _ _ c.loop-at-test.true c.role_of-role.ensures c.node_of-node.ensures (sym c.is_listed.ensures ∙ c.if-not-is_listed.true))

pub overflow_sub-bytes : goal.overflow_sub-bytes
overflow_sub-bytes c = c.loop-at.invariant.going.inside

pub returns-then-bytes-at : goal.returns-then-bytes-at
returns-then-bytes-at c =
    rw (c.refused-then-bytes-at.ensures.0, c.refused-then-bytes-at.ensures.1)
    (scan-short _ _ _ _ _ c.loop-at.invariant.going _ _ c.loop-at-test.true c.role_of-role.ensures c.node_of-node.ensures (sym c.is_listed.ensures ∙ c.if-not-is_listed.false) _ c.size_of-size.ensures c.if-bytes-at.true)

pub get_record-x-requires : goal.get_record-x-requires
get_record-x-requires c =
    scan-fits _ _ _ _ _ c.loop-at.invariant.going _ _ c.loop-at-test.true c.role_of-role.ensures c.node_of-node.ensures (sym c.is_listed.ensures ∙ c.if-not-is_listed.false) _ c.size_of-size.ensures c.if-bytes-at.false

pub fault-requires : goal.fault-requires
fault-requires c = c.loop-at.invariant.going.held

pub returns-in_err-fault : goal.returns-in_err-fault
returns-in_err-fault c =
    let p = err_from_is_err_and c.from_residual.result c.from_residual.ensures.1 in
    rw (p.1, p.2)
    (scan-fault _ _ _ _ _ c.loop-at.invariant.going _ _ c.loop-at-test.true c.role_of-role.ensures c.node_of-node.ensures (sym c.is_listed.ensures ∙ c.if-not-is_listed.false) _ c.size_of-size.ensures c.if-bytes-at.false
    _ c.get_record-x.ensures c.in_err-fault.field-0.0 c.in_err-fault.ensures)

pub returns-then-most-count : goal.returns-then-most-count
returns-then-most-count c =
    rw (c.refused-then-most-count.ensures.0, c.refused-then-most-count.ensures.1)
    (scan-full _ _ _ _ _ c.loop-at.invariant.going _ _ c.loop-at-test.true c.role_of-role.ensures c.node_of-node.ensures (sym c.is_listed.ensures ∙ c.if-not-is_listed.false) _ c.size_of-size.ensures c.if-bytes-at.false
    _ c.get_record-x.ensures c.in_ok-fault.ensures c.if-most-count.true)

pub follow-requires : goal.follow-requires
follow-requires c = admits c.loop-at.nest (record_in c.args.bytes.now) c.get_record-x.result c.in_ok-fault.ensures

pub overflow_add-count : goal.overflow_add-count
overflow_add-count c = omega (arith, c.loop-at.invariant.going.few, c.loop-at-test.true, c.well_formed.0.1)

pub overflow_add-at : goal.overflow_add-at
overflow_add-at c = omega (arith, c.loop-at.invariant.going.inside, c.if-bytes-at.false, c.well_formed.0.1)

pub loop-at-smaller : goal.loop-at-smaller
loop-at-smaller c = omega (arith, size-some offset c.role_of-role.result c.node_of-node.result, c.size_of-size.ensures, c.loop-at-test.true)

pub loop-at-preserved : goal.loop-at-preserved
loop-at-preserved c = record {
  same_open = refl;
  going = scan-again _ _ _ _ _ c.loop-at.invariant.going _ _ c.loop-at-test.true c.role_of-role.ensures c.node_of-node.ensures (sym c.is_listed.ensures ∙ c.if-not-is_listed.false) _ c.size_of-size.ensures c.if-bytes-at.false
      _ c.get_record-x.ensures c.in_ok-fault.ensures c.follow.new.self c.if-most-count.false c.follow.ensures.by_index c.follow.ensures.held;
}

pub returns-then-not-nest : goal.returns-then-not-nest
returns-then-not-nest c = rw (c.refused-then-not-nest.ensures.0, c.refused-then-not-nest.ensures.1) (scan-open _ _ _ _ _ c.loop-at.invariant.going c.loop-at-test.false c.if-not-nest.true)

pub returns : goal.returns
returns c = scan-done _ _ _ _ _ c.loop-at.invariant.going c.loop-at-test.false c.if-not-nest.false
