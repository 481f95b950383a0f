-- `row_fields::read_front` meets its contract: each part is read, or is malformed; what is told of the step says which places they are.
use Rattle.row_fields.proofs.Fields.{item-stop, no-spec, no-kind, no-source, source-past, no-destination, row-read, front-placed}
use Rattle.row_fields.proofs.read_front.Goals as goal

pub returns-in_err-item : goal.returns-in_err-item
returns-in_err-item c =
    let h = item-stop c.args.s.now c.args.at c.read.result c.read.ensures c.in_err-item.was in
    rw c.from_residual.ensures (front-placed _ _ _ h, h)

pub returns-in_err-spec : goal.returns-in_err-spec
returns-in_err-spec c =
    let h = no-spec c.args.s.now c.type_inv.s c.args.at c.read.result c.read.ensures c.in_ok-item.item c.in_ok-item.was c.read-2.result c.read-2.ensures c.in_err-spec.was in
    rw c.from_residual-in_err-spec.ensures (front-placed _ _ _ h, h)

pub returns-in_err-kind : goal.returns-in_err-kind
returns-in_err-kind c =
    let h =
    no-kind c.args.s.now c.type_inv.s c.args.at c.read.result c.read.ensures c.in_ok-item.item c.in_ok-item.was c.read-2.result c.read-2.ensures c.in_ok-spec.spec c.in_ok-spec.was c.read-3.result
    c.read-3.ensures c.in_err-kind.was in
    rw c.from_residual-in_err-kind.ensures (front-placed _ _ _ h, h)

pub returns-in_err-ok : goal.returns-in_err-ok
returns-in_err-ok c = let h = no-source c.args.s.now c.type_inv.s c.args.at c.read.result c.read.ensures c.in_ok-item.item c.in_ok-item.was c.read-2.result c.read-2.ensures c.in_ok-spec.spec c.in_ok-spec.was c.read-3.result c.read-3.ensures c.in_ok-kind.kind c.in_ok-kind.was c.next.result c.next.ensures c.ok.result c.ok.ensures.value c.in_err-ok.was in rw c.from_residual-in_err-ok.ensures (front-placed _ _ _ h, h)

pub returns-in_err-src : goal.returns-in_err-src
returns-in_err-src c = let h = source-past c.args.s.now c.type_inv.s c.args.at c.read.result c.read.ensures c.in_ok-item.item c.in_ok-item.was c.read-2.result c.read-2.ensures c.in_ok-spec.spec c.in_ok-spec.was c.read-3.result c.read-3.ensures c.in_ok-kind.kind c.in_ok-kind.was c.next.result c.next.ensures c.ok.result c.ok.ensures.value c.in_ok-ok.field-0 c.in_ok-ok.was c.in_err-src.was in rw c.from_residual-in_err-src.ensures (front-placed _ _ _ h, h)

pub returns-in_err-dst : goal.returns-in_err-dst
returns-in_err-dst c =
    let h = no-destination c.args.s.now c.type_inv.s c.args.at c.read.result c.read.ensures c.in_ok-item.item c.in_ok-item.was c.read-2.result c.read-2.ensures c.in_ok-spec.spec c.in_ok-spec.was c.read-3.result c.read-3.ensures c.in_ok-kind.kind c.in_ok-kind.was c.next.result c.next.ensures c.ok.result c.ok.ensures.value c.in_ok-ok.field-0 c.in_ok-ok.was c.in_ok-src.src c.in_ok-src.was c.read_destination.result c.read_destination.ensures c.in_err-dst.was in
    rw c.from_residual-in_err-dst.ensures (front-placed _ _ _ h, h)

pub returns : goal.returns
returns c =
    let h = row-read c.args.s.now c.type_inv.s c.args.at c.read.result c.read.ensures c.in_ok-item.item c.in_ok-item.was c.read-2.result c.read-2.ensures c.in_ok-spec.spec c.in_ok-spec.was c.read-3.result c.read-3.ensures c.in_ok-kind.kind c.in_ok-kind.was c.next.result c.next.ensures c.ok.result c.ok.ensures.value c.in_ok-ok.field-0 c.in_ok-ok.was c.in_ok-src.src c.in_ok-src.was c.read_destination.result c.read_destination.ensures c.in_ok-dst.dst c.in_ok-dst.was in
    (front-placed _ _ _ h, h)
