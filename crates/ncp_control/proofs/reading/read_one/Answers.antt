use Rattle.std.proofs.Common.{◌≡◌, All, Ok, rules, arith, None}
use Rattle.std.proofs.lemmas.List.Elements.{All-from_get_or}
use Rattle.ncp_control.specs.Command.{IsOctet}
use Rattle.ncp_control.specs.Reading.{read_of, length_of, command_of}
use Rattle.ncp_control.proofs.Readings.{spelled_by, only_requests}
use Rattle.ncp_control.proofs.reading.read_one.Goals as goal

pub returns-in-Some-command_of-clause-spelled : goal.returns-in-Some-command_of-clause-spelled
unfolding read_of
returns-in-Some-command_of-clause-spelled c =
    let exact : read_of c.args.octets.now ≡ Ok (c.in-Some-command_of.command, length_of c.in-Some.code) = search rules in
    let small : All IsOctet c.args.octets.now = All-from_get_or IsOctet c.args.octets.now 0 (λ i there. (c.type_inv.octets i).fits) in
    (spelled_by c.args.octets.now _ _ small exact).spelled

pub returns-in-Some-command_of-clause-command : goal.returns-in-Some-command_of-clause-command
unfolding read_of
returns-in-Some-command_of-clause-command c =
    let exact : read_of c.args.octets.now ≡ Ok (c.in-Some-command_of.command, length_of c.in-Some.code) = search rules in
    let small : All IsOctet c.args.octets.now = All-from_get_or IsOctet c.args.octets.now 0 (λ i there. (c.type_inv.octets i).fits) in
    (spelled_by c.args.octets.now _ _ small exact).command

pub returns-in-None-clause-within : goal.returns-in-None-clause-within
returns-in-None-clause-within c =
    let none : command_of c.in-Some.code c.args.octets.now ≡ None = search rules in
    let ten : length_of c.in-Some.code ≡ 10 = only_requests c.in-Some.code c.args.octets.now c.if-code-gt13.false none in
    (omega (arith, ten), c.if-octets-length.false, omega (arith, ten))
