use Rattle.std.proofs.Common.{◌≡◌, refl, codes}
use Rattle.clap.specs.Words.{App, app_of, new_app, with_rule}
use Rattle.command_line.specs.Parser.{bare, flag}
use Rattle.command_line.proofs.Flags.CommandLine.{IsFlag, is_bare, is_flag, with_flag, with_flag_if}
use Rattle.command_line.proofs.options.command.Goals as goal

pub returns : goal.returns
returns c =
    let app : App = bare (new_app (codes "arpasim")) in
    let book : IsFlag (codes "book") c.action-book.result = is_flag (codes "book") _ c.new.result c.long.result c.action-book.result c.new.ensures.rule c.new.ensures.optional.1 refl c.long.ensures c.action-book.ensures in
    let check : IsFlag (codes "check") c.action-check.result = is_flag (codes "check") _ c.new-2.result c.long-2.result c.action-check.result c.new-2.ensures.rule c.new-2.ensures.optional.1 refl c.long-2.ensures c.action-check.ensures in
    let texts : IsFlag (codes "texts") c.action-texts.result = is_flag (codes "texts") _ c.new-3.result c.long-3.result c.action-texts.result c.new-3.ensures.rule c.new-3.ensures.optional.1 refl c.long-3.ensures c.action-texts.ensures in
    let empty : app_of c.disable_version_flag.result ≡ app = is_bare (codes "arpasim") c.new-4.result c.no_binary_name.result c.disable_help_flag.result c.disable_version_flag.result c.new-4.ensures.app c.no_binary_name.ensures c.disable_help_flag.ensures c.disable_version_flag.ensures in
    let one : app_of c.in_ok-arg.field-0 ≡ with_rule app (flag (codes "book")) = with_flag (codes "book") c.disable_version_flag.result c.in_ok-arg.field-0 c.action-book.result app c.in_ok-arg.ensures book empty in
    let two : app_of c.in_ok-arg-2.field-0 ≡ with_rule (with_rule app (flag (codes "book"))) (flag (codes "check")) =
    with_flag (codes "check") c.in_ok-arg.field-0 c.in_ok-arg-2.field-0 c.action-check.result (with_rule app (flag (codes "book"))) c.in_ok-arg-2.ensures check one in
    with_flag_if (codes "texts") c.in_ok-arg-2.field-0 c.arg-3.result c.action-texts.result (with_rule (with_rule app (flag (codes "book"))) (flag (codes "check"))) c.arg-3.ensures texts two
