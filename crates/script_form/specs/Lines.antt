-- The form of a line.
use Rattle.std.specs.Prelude.{ℕ, List, [], ◌∷◌, codes, Option, Some, None, option_map, if◌then◌else◌}
use Rattle.std.specs.Str.{bytes_eq}
use Rattle.ft_base.specs.declared.context.Ctx.TheVariants.{Softirq, Irq, Nmi}
use Rattle.script_text.specs.Lines.{Word, words_of, is_skipped, is_plain}
use Rattle.script_form.specs.Forms.{LineForm, skip, depth, tramps, absent, ring, trigger, new_lane, call, ret, raise, lower, after, only_name, only_number, only_word, alone, version_form, func_form, tracing_form, cpu_form, task_form, ctl_form, sched_form}
use Rattle.script_form.specs.Users.{user_form}

-- the acts of a task
abbrev pub act_form : Word → List Word → Option LineForm
act_form key args =
    if bytes_eq key (codes "call") then option_map call (only_name args)
    else (if bytes_eq key (codes "ret") then alone ret args
    else (if bytes_eq key (codes "softirq") then alone (raise Softirq) args
    else (if bytes_eq key (codes "irq") then alone (raise Irq) args
    else (if bytes_eq key (codes "nmi") then alone (raise Nmi) args
    else (if bytes_eq key (codes "iret") then alone lower args
    else (if bytes_eq key (codes "after") then option_map after (only_number args)
    else None))))))

-- declarations and acts, which have no list
abbrev pub unlisted_form : Word → List Word → Option LineForm
unlisted_form key args =
    if bytes_eq key (codes "ftrace") then version_form args
    else (if bytes_eq key (codes "func") then func_form args
    else (if bytes_eq key (codes "depth") then option_map depth (only_number args)
    else (if bytes_eq key (codes "tramps") then option_map tramps (only_number args)
    else (if bytes_eq key (codes "absent") then option_map absent (only_name args)
    else (if bytes_eq key (codes "ring") then option_map ring (only_number args)
    else (if bytes_eq key (codes "tracing") then tracing_form args
    else (if bytes_eq key (codes "trigger") then option_map trigger (only_word args)
    else (if bytes_eq key (codes "user") then user_form args
    else (if bytes_eq key (codes "cpu") then cpu_form args
    else (if bytes_eq key (codes "task") then task_form args
    else (if bytes_eq key (codes "lane") then option_map new_lane (only_number args)
    else act_form key args)))))))))))

-- the key chooses the form, and the arguments have to fit it
abbrev pub keyed_form : Word → List Word → Option LineForm
keyed_form key args =
    if bytes_eq key (codes "ctl") then ctl_form args
    else (if bytes_eq key (codes "sched") then sched_form args
    else unlisted_form key args)

-- the form of these words, if they have one
abbrev pub form_of : List Word → Option LineForm
form_of [] = Some skip
form_of (key ∷ args) = keyed_form key args

-- the form of a line, if it has one: the bytes of a line that is skipped are free, and any other line has to be plain
unfoldable pub line_form : List ℕ → Option LineForm
line_form line =
    if is_skipped (words_of line) then Some skip
    else (if is_plain line then form_of (words_of line) else None)
