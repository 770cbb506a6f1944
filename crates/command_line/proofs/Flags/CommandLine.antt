-- The command line is as it is described.
use Rattle.std.proofs.Common.{true, ◌≡◌, ap, ap₂, ◌∙◌, Result, Ok, Err, IfOk, Bor, Some, false}
use Rattle.std.specs.declared.alloc.AllocError.{AllocError}
use Rattle.clap.specs.Simple.{app_of_fields}
use Rattle.clap.specs.Words.{AddsArg, App, Rule, Text, app_of, new_app, new_rule, with_rule}
use Rattle.clap.specs.Walk.{rule_of}
use Rattle.clap.specs.declared.builder.action.ArgAction.TheVariants.{SetTrue}
use Rattle.clap.specs.declared.builder.arg.Arg.{Arg}
use Rattle.clap.specs.declared.builder.command.Command.{Command}
use Rattle.clap.specs.declared.builder.command.Command.TheOpen.{Command-F}
use Rattle.clap.specs.declared.builder.command.Command.TheViews.{out-Command}
use Rattle.command_line.specs.Parser.{bare, flag}

-- an argument that is a flag of this name
pub record IsFlag (name : Text) (a : Arg) : Type 0 where
  pub global : a.global ≡ false
  pub rule : rule_of a ≡ flag name

pub is_flag : (name : Text) (long : Bor Text) (first second third : Arg) → rule_of first ≡ new_rule name → first.global ≡ false → long.now ≡ name
    → second ≡ record first { long = Some long } → third ≡ record second { action = Some SetTrue } → IsFlag name third
is_flag name long first second third rule global named is_second is_third =
    let is : third ≡ record first { long = Some long; action = Some SetTrue } = is_third ∙ ap (λ (a : Arg). record a { action = Some SetTrue }) is_second in
    record {
      global = ap (λ (a : Arg). a.global) is ∙ global;
      rule = ap rule_of is ∙ ap₂ (λ (r : Rule) (n : Text). record r { long = Some n; action = Some SetTrue }) rule named;
    }

-- a command with one flag more
pub with_flag : (name : Text) (old new : Command) (a : Arg) (app : App) → AddsArg old a new → IsFlag name a → app_of old ≡ app → app_of new ≡ with_rule app (flag name)
with_flag name old new a app added is before = added.shape is.global ∙ ap₂ with_rule before is.rule

pub with_flag_if : (name : Text) (old : Command) (r : Result Command AllocError) (a : Arg) (app : App) → IfOk r (λ (new : Command). AddsArg old a new) → IsFlag name a → app_of old ≡ app
    → IfOk r (λ (new : Command). app_of new ≡ with_rule app (flag name))
with_flag_if name old (Ok new) a app added is before = with_flag name old new a app added is before
with_flag_if name old (Err e) a app added is before = tt

-- a new command after its three settings
pub is_bare : (name : Text) (first second third fourth : Command) → app_of first ≡ new_app name → out-Command second ≡ record (out-Command first) { no_binary_name = true }
    → out-Command third ≡ record (out-Command second) { disable_help_flag = true } → out-Command fourth ≡ record (out-Command third) { disable_version_flag = true } → app_of fourth ≡ bare (new_app name)
is_bare name first second third fourth new one two three =
    let both : out-Command third ≡ record (out-Command first) { no_binary_name = true; disable_help_flag = true } = two ∙ ap (λ (f : Command-F Command). record f { disable_help_flag = true }) one in
    let all : out-Command fourth ≡ record (out-Command first) { no_binary_name = true; disable_help_flag = true; disable_version_flag = true } = three ∙ ap (λ (f : Command-F Command). record f { disable_version_flag = true }) both in
    ap app_of_fields all ∙ ap bare new
