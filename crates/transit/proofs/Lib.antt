mod CountLaws
mod PageLaws
