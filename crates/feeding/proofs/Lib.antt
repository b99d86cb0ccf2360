pub mod ByteLaws
pub mod Examples
pub mod FeedLaws
pub mod InputLaws
pub mod LineLaws
pub mod RunLaws
