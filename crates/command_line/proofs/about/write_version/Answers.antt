use Rattle.std.proofs.Common.{ℕ, List, ◌++◌, Option, codes, subst}
use Rattle.std.specs.Io.KnownBytes.{Appends}
use Rattle.command_line.specs.declared.about.TheConstants.{VERSION}
use Rattle.command_line.proofs.Verdicts.Judged.{joins}
use Rattle.command_line.proofs.about.write_version.Goals as goal

pub returns-clause-written : goal.returns-clause-written
returns-clause-written g c =
    let before : Option (List ℕ) = g.W.Output.contents c.args.writer.now in
    let named : Option (List ℕ) = g.W.Output.contents c.write_all.new.self in
    let counted : Option (List ℕ) = g.W.Output.contents c.write_all-2.new.self in
    let after : Option (List ℕ) = g.W.Output.contents c.write_last.new.writer in
    joins before named after (codes "arpasim ") (VERSION.now ++ codes "\n") c.in_ok-write_all.ensures.written
    (joins named counted after VERSION.now (codes "\n") (subst (Appends named counted) c.as_bytes.ensures.value c.in_ok-write_all-2.ensures.written) c.in_ok-write_last.ensures.written)
