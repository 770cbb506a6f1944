use Rattle.std.proofs.Common.{◌≡◌, ◌≤◌, ◌*◌, ◌∙◌, ℕ, ap, arith, length, get_or}
use Rattle.bit_messages.specs.Octets.{octets_of}
use Rattle.ncp_control.specs.declared.data_header.DataHeader.{DataHeader}
use Rattle.ncp_control.proofs.Headers.{octets_enough, fields_read}
use Rattle.ncp_control.proofs.data_header.fields_of.Goals as goal

pub bounds-octets-1 : goal.bounds-octets-1
bounds-octets-1 c =
    let there : length c.args.text.now ≤ 8 * length (octets_of c.args.text.now) = octets_enough c.args.text.now in
    let size : length c.as_octets-octets.result.now ≡ length (octets_of c.args.text.now) = ap length c.as_octets-octets.ensures in
    omega arith

pub bounds-octets-2 : goal.bounds-octets-2
bounds-octets-2 c =
    let there : length c.args.text.now ≤ 8 * length (octets_of c.args.text.now) = octets_enough c.args.text.now in
    let size : length c.as_octets-octets.result.now ≡ length (octets_of c.args.text.now) = ap length c.as_octets-octets.ensures in
    omega arith

pub bounds-octets-3 : goal.bounds-octets-3
bounds-octets-3 c =
    let there : length c.args.text.now ≤ 8 * length (octets_of c.args.text.now) = octets_enough c.args.text.now in
    let size : length c.as_octets-octets.result.now ≡ length (octets_of c.args.text.now) = ap length c.as_octets-octets.ensures in
    omega arith

pub returns : goal.returns
returns c =
    let H : ℕ → DataHeader = λ n. record { size = get_or c.as_octets-octets.result.now 1 0; count = n } in
    ap H c.from_be_bytes.ensures ∙ fields_read c.args.text.now c.as_octets-octets.result.now c.as_octets-octets.ensures c.requires
