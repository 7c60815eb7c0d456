-- Which posts go by an update.
use Rattle.std.specs.Prelude.{◌≡◌, ℕ, List, Option, None, Some, is_some}
use Rattle.std.specs.List.{filter}
use Rattle.ids.specs.Names.{Grant}
use Rattle.ids.specs.Place.{level_of}
use Rattle.ids.specs.declared.work.Frame.{Frame}
use Rattle.frames.specs.Frames.{frame_in}
use Rattle.level_deques.specs.declared.posts.Post.{Post}
use Rattle.level_deques.specs.Posts.{without_post}
use Rattle.sub_rules.specs.declared.updates.Leaver.{Leaver}
use Rattle.sub_rules.specs.declared.updates.Leaver.TheVariants.{FrameOf, RecordOf}
use Rattle.sub_rules.specs.declared.updates.Update.{Update}
use Rattle.sub_rules.specs.declared.updates.Replacement.{Replacement}
use Rattle.sub_rules.specs.declared.updates.Replacement.TheVariants.{Ends, Fills, Adds}
use Rattle.subcomputation.specs.Subs.{SubOf, sub_in}
use Rattle.node_state.specs.Posts.{ready_of_sub}
use Rattle.node_state.specs.declared.parts.Stale.{Stale}
use Rattle.node_state.specs.declared.parts.Stale.TheVariants.{Nothing, One, Any}

-- the post of a frame that leaves
abbrev pub stale_frame : Grant → ℕ → Option Frame → Stale
stale_frame g n None = Nothing
stale_frame g n (Some f) = One (record { level = level_of f.place; grant = g; frame = n })

abbrev pub stale_in : Grant → ℕ → Option SubOf → Stale
stale_in g n None = Nothing
stale_in g n (Some s) = stale_frame g n (frame_in n s.content.frames)

-- what leaves a grant's subcomputation
abbrev pub stale_leaver : Grant → Leaver → Option SubOf → Stale
stale_leaver g (RecordOf h) s = Nothing
stale_leaver g (FrameOf n) s = stale_in g n s

-- where it ends, any of its frames may have been ready
abbrev pub stale_work : Grant → Leaver → Replacement → Option SubOf → Stale
stale_work g l (Ends o) s = Any
stale_work g l (Fills n j v) s = stale_leaver g l s
stale_work g l (Adds made next) s = stale_leaver g l s

abbrev pub stale_by : Grant → Update → Option SubOf → Stale
stale_by g u s = stale_work g u.leaver u.work s

-- the posts of frames that are ready
abbrev pub still_ready : List SubOf → List Post → List Post
still_ready subs posts = filter (λ p. is_some (ready_of_sub p.frame (sub_in p.grant subs))) posts

-- no others go than those that may be
abbrev pub Covers : List SubOf → List Post → Stale → Type 0
Covers subs posts Nothing = still_ready subs posts ≡ posts
Covers subs posts (One p) = still_ready subs posts ≡ without_post p posts
Covers subs posts Any = Unit {0}
